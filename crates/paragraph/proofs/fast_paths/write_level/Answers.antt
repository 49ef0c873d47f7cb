use Rattle.std.proofs.Common.{sym, ◌∙◌}
use Rattle.units.specs.Classes.{classes_of, is_removed}
use Rattle.paragraph.proofs.FlatLevels.{none_from}
use Rattle.paragraph.proofs.fast_paths.write_level.Goals as goal

pub write_all-requires-clause-remain : goal.write_all-requires-clause-remain
write_all-requires-clause-remain g c =
    none_from is_removed (classes_of c.args.para.now)
    (sym (c.all_remain.ensures (classes_of c.args.para.now) c.requires.contents) ∙ c.if-all_remain.true)

use Rattle.std.proofs.Common.{sym, ◌∙◌}
use Rattle.std.proofs.lemmas.Bool.{not-true}
use Rattle.paragraph.proofs.KnownLevels.{last_remains}
use Rattle.paragraph.proofs.fast_paths.write_four.Goals as goal

pub write_level_at-requires-4-clause-remains : goal.write_level_at-requires-4-clause-remains
write_level_at-requires-4-clause-remains c = λ e.
    last_remains c.args.para.now c.args.p (sym c.removes_one-remain.ensures ∙ not-true c.removes_one-remain.result e)

use Rattle.std.proofs.Common.{rules}
use Rattle.units.specs.Classes.{classes_of}
use Rattle.units.specs.Isolates.{level_of_para}
use Rattle.paragraph.specs.Contents.{are_flat}
use Rattle.paragraph.specs.Covering.{positions_in}
use Rattle.paragraph.proofs.FlatLevels.{flat_from, levels_before, own_before}
use Rattle.paragraph.proofs.resolver.resolve_at.Goals as goal

pub resolve_sequences-requires-clause-own : goal.resolve_sequences-requires-clause-own
resolve_sequences-requires-clause-own g c =
    own_before c.args.para.now.limits c.args.para.now.units.now
    (level_of_para c.args.level) c.find_sequences.new.found.explicit
    (are_flat (classes_of c.args.para.now.units.now)) c.find_sequences.ensures.levels
    (positions_in c.find_sequences.new.found.sequences)

pub returns-clause-levels : goal.returns-clause-levels
returns-clause-levels g c =
    levels_before c.args.para.now.limits c.args.para.now.units.now
    (level_of_para c.args.level) c.find_sequences.new.found.explicit
    (are_flat (classes_of c.args.para.now.units.now)) (flat_from (classes_of c.args.para.now.units.now))
    c.find_sequences.ensures.levels c.find_sequences.new.found.sequences c.resolve_sequences.new.levels
    c.find_sequences.ensures.all (search rules) c.resolve_sequences.ensures.levels

use Rattle.units.specs.Isolates.{level_of_para}
use Rattle.sequences.proofs.FilledFrom.{paragraph_of, level_of_para-low}
use Rattle.sequences.proofs.leveled.Leveled.new.Goals as goal

pub invariant_of-result : goal.invariant_of-result
invariant_of-result c = rw (c.level.ensures.value, c.column.ensures) (
    paragraph_of c.args.para.now c.args.isolates.now c.args.explicit.now
    (level_of_para c.args.level) c.requires.separators c.requires.isolates c.requires.levels
    (level_of_para-low c.args.level)
    )

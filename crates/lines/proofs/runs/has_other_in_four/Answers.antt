use Rattle.lines.proofs.LevelBlocks.{level_of_four, no_level_of_four}
use Rattle.lines.proofs.runs.has_other_in_four.Goals as goal

pub returns-clause-same : goal.returns-clause-same
returns-clause-same c = level_of_four c.args.levels.now c.args.position c.args.level _ _ _ _
    c.has_other_level.ensures.same c.has_other_level-2.ensures.same c.has_other_level-3.ensures.same
    c.has_other_level-4.ensures.same

pub returns-clause-other : goal.returns-clause-other
returns-clause-other c = no_level_of_four c.args.levels.now c.args.position c.args.level _ _ _ _
    c.has_other_level.ensures.other c.has_other_level-2.ensures.other c.has_other_level-3.ensures.other
    c.has_other_level-4.ensures.other

use Rattle.lines.proofs.LevelBlocks.{level_of_eight, no_level_of_eight}
use Rattle.lines.proofs.runs.has_other_in_eight.Goals as goal

pub returns-clause-same : goal.returns-clause-same
returns-clause-same c = level_of_eight c.args.levels.now c.args.position c.args.level _ _
    c.has_other_in_four.ensures.same c.has_other_in_four-2.ensures.same

pub returns-clause-other : goal.returns-clause-other
returns-clause-other c = no_level_of_eight c.args.levels.now c.args.position c.args.level _ _
    c.has_other_in_four.ensures.other c.has_other_in_four-2.ensures.other

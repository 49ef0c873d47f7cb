use Rattle.rule_columns.proofs.LastLevels.{last_levels}
use Rattle.rule_columns.proofs.theorems.last_levels_are_resolved.Goals as goal

pub returns : goal.returns
returns c = last_levels

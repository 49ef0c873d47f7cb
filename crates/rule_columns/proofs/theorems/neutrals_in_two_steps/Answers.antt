use Rattle.rule_columns.proofs.NeutralSteps.{in_two_steps}
use Rattle.rule_columns.proofs.theorems.neutrals_in_two_steps.Goals as goal

pub returns : goal.returns
returns c = in_two_steps

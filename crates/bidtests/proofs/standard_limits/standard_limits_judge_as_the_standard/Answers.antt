use Rattle.bidtests.proofs.StandardLimits.{standard-verdict}
use Rattle.bidtests.proofs.standard_limits.standard_limits_judge_as_the_standard.Goals as goal

pub returns : goal.returns
returns c = standard-verdict c.standard_limits_are_the_standard.ensures.layouts

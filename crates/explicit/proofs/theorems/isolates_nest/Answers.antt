use Rattle.explicit.proofs.Matched.Nesting.{nest_or_apart}
use Rattle.explicit.proofs.theorems.isolates_nest.Goals as goal

pub returns : goal.returns
returns c = nest_or_apart

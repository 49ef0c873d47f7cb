use Rattle.explicit.proofs.LevelsComputed.ExplicitAt.{explicit-none}
use Rattle.explicit.proofs.theorems.removed_have_no_level.Goals as goal

pub returns : goal.returns
returns c = explicit-none

use Rattle.explicit.proofs.LevelsComputed.InsideIsolates.{nested}
use Rattle.explicit.proofs.theorems.explicit_is_nested.Goals as goal

pub returns : goal.returns
returns c = nested

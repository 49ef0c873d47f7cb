use Rattle.explicit.proofs.LevelsComputed.Leveled.{leveled}
use Rattle.explicit.proofs.theorems.explicit_is_leveled.Goals as goal

pub returns : goal.returns
returns c = leveled

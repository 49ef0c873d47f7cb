use Rattle.sequences.proofs.AlongSequences.{levels_along}
use Rattle.sequences.proofs.theorems.positions_have_one_level.Goals as goal

pub returns : goal.returns
returns c = λ t j p s nested found within. levels_along t nested j p s found within

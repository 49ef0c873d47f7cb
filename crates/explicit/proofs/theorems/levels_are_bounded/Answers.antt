use Rattle.std.proofs.Common.{arith}
use Rattle.explicit.proofs.Holders.MatchedIsolates.{level-at_most}
use Rattle.explicit.proofs.theorems.levels_are_bounded.Goals as goal

pub returns : goal.returns
returns c = λ depth cs para p low. level-at_most depth cs para p depth (omega arith) low

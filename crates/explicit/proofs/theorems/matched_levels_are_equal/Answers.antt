use Rattle.explicit.proofs.Holders.MatchedIsolates.{levels-matched}
use Rattle.explicit.proofs.theorems.matched_levels_are_equal.Goals as goal

pub returns : goal.returns
returns c = λ depth cs para i j h. levels-matched depth cs para i j h

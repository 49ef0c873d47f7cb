use Rattle.bidtests.proofs.FourthDirection.{verdict-alike}
use Rattle.bidtests.proofs.three_directions.three_directions_are_judged_alike.Goals as goal

pub returns : goal.returns
returns c = λ limits kind bytes three. verdict-alike limits kind bytes three.0 three.1

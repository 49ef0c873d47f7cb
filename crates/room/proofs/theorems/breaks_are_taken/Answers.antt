use Rattle.room.proofs.AtBreaks.{breaks_are_taken}
use Rattle.room.proofs.theorems.breaks_are_taken.Goals as goal

pub returns : goal.returns
returns c = breaks_are_taken

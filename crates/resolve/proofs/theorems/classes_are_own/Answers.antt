use Rattle.resolve.proofs.OwnClasses.{current-own}
use Rattle.resolve.proofs.theorems.classes_are_own.Goals as goal

pub returns : goal.returns
returns c = current-own

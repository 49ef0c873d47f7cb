use Rattle.units.specs.Classes.{class_at}
use Rattle.units.specs.Explicit.{explicit_of}
use Rattle.units.specs.Layout.{current_of}
use Rattle.resolve.proofs.OwnClasses.{current-own, mark-own}
use Rattle.resolve.proofs.theorems.marks_are_own.Goals as goal

pub returns : goal.returns
returns c = λ depth cs para p. mark-own (class_at (current_of (explicit_of depth cs para)) p) (class_at cs p)
    (current-own depth cs para p)

-- What is wrong with a line apart from its number, and its failing verdict with the number.
use Rattle.std.specs.Prelude.{Option, Some, None, ℕ}
use Rattle.units.specs.Limits.{LimitsOf}
use Rattle.units.specs.declared.level.Direction.{Direction}
use Rattle.bidtests.specs.declared.line_fault.LineFault.{LineFault}
use Rattle.bidtests.specs.declared.line_fault.LineFault.TheVariants.{OfForm, OfCase}
use Rattle.bidtests.specs.declared.verdict.Place.{Place}
use Rattle.bidtests.specs.declared.verdict.Verdict.{Verdict}
use Rattle.bidtests.specs.declared.verdict.Verdict.TheVariants.{Malformed, Wrong}
use Rattle.bidtests.specs.Verdicts.{Finding, Silent, Row, Faulty, wrong_case}

-- the fault of a wrong case, if there is one
abbrev pub wrong_fault : Option (Direction × Place) → Option LineFault
wrong_fault None = None
wrong_fault (Some x) = Some (OfCase x.0 x.1)

-- what is wrong with a line with this finding, if it is malformed or has a wrong case
abbrev pub line_fault_of : LimitsOf → Finding → Option LineFault
line_fault_of limits Silent = None
line_fault_of limits (Faulty cause) = Some (OfForm cause)
line_fault_of limits (Row expected) = wrong_fault (wrong_case limits expected expected.directions)

-- the failing verdict of the line of this number with this fault
abbrev pub no_with : ℕ → LineFault → Verdict
no_with number (OfForm cause) = Malformed number cause
no_with number (OfCase direction place) = Wrong number direction place

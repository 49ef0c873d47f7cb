-- The verdict by the numbers of the standard: rows are compared with the layouts with 125 levels and 63 open brackets.
use Rattle.std.specs.Prelude.{Option, ℕ, ◌+◌, List, [], ◌∷◌, Some, None}
use Rattle.units.specs.StandardLimits.{standard_layout}
use Rattle.units.specs.Text.{lines_of}
use Rattle.units.specs.declared.level.Direction.{Direction}
use Rattle.bidtests.specs.declared.kind.Kind.{Kind}
use Rattle.bidtests.specs.declared.verdict.Place.{Place}
use Rattle.bidtests.specs.declared.verdict.Verdict.{Verdict}
use Rattle.bidtests.specs.declared.verdict.Verdict.TheVariants.{Malformed}
use Rattle.bidtests.specs.Verdicts.{Expected, Finding, Silent, Row, Faulty, or_yes, with_place, wrong_at, wrong_place}
use Rattle.std.specs.Option.{option_or}
use Rattle.units.specs.Lines.{line_number}
use Rattle.bidtests.specs.FileKinds.{findings_by}

-- the first of these directions whose case is wrong, and the place
abbrev pub standard_wrong_case : Expected → List Direction → Option (Direction × Place)
standard_wrong_case expected [] = None
standard_wrong_case expected (d ∷ ds) =
    option_or
    (with_place d (wrong_place expected.para_level expected.levels expected.order (standard_layout expected.text d [])))
    (standard_wrong_case expected ds)

-- the failing verdict of the line of this number
abbrev pub standard_no_of : ℕ → Finding → Option Verdict
standard_no_of number Silent = None
standard_no_of number (Faulty cause) = Some (Malformed number cause)
standard_no_of number (Row expected) = wrong_at number (standard_wrong_case expected expected.directions)

-- the failing verdict of the first of these lines that has one; there are k lines before them
abbrev pub standard_first_no : ℕ → List Finding → Option Verdict
standard_first_no k [] = None
standard_first_no k (f ∷ fs) = option_or (standard_no_of (line_number k) f) (standard_first_no (k + 1) fs)

-- the verdict on the bytes of a file of this kind
abbrev pub standard_verdict_of : Kind → List ℕ → Verdict
standard_verdict_of kind bytes =
    let found = findings_by kind (lines_of bytes) in
    or_yes found (standard_first_no 0 found)

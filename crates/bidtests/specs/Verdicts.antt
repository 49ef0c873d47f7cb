-- The verdict on a test file: the first line that is malformed or has a wrong case, or yes.
use Rattle.std.specs.Prelude.{Option, ℕ, ◌+◌, Bool, true, false, nat_eq, if◌then◌else◌, List, [], ◌∷◌, length, sum_by, count_by, Some, None}
use Rattle.std.specs.Option.{option_or}
use Rattle.units.specs.Positions.{same_position}
use Rattle.units.specs.Layout.{TextLayout, layout_of, all_orders}
use Rattle.units.specs.Limits.{LimitsOf}
use Rattle.units.specs.Lines.{line_number, saturated}
use Rattle.units.specs.declared.bracket.Unit.{Unit as BidiUnit}
use Rattle.units.specs.declared.level.Direction.{Direction}
use Rattle.bidtests.specs.declared.verdict.Cause.{Cause}
use Rattle.bidtests.specs.declared.verdict.Place.{Place}
use Rattle.bidtests.specs.declared.verdict.Place.TheVariants.{ParaLevel, Levels, Order}
use Rattle.bidtests.specs.declared.verdict.Verdict.{Verdict}
use Rattle.bidtests.specs.declared.verdict.Verdict.TheVariants.{Yes, Malformed, Wrong}

-- what a row expects of its text under each of its directions: perhaps the level of the first paragraph, the levels of
-- all positions, and the order
pub record Expected : Type 0 where
  pub text : List BidiUnit
  pub directions : List Direction
  pub para_level : Option ℕ
  pub levels : List (Option ℕ)
  pub order : List ℕ

-- the finding of a line after the lines before it: it is silent, a row that expects this, or malformed
pub data Finding : Type 0 where
  Silent : Finding
  Row : (expected : Expected) → Finding
  Faulty : (cause : Cause) → Finding

-- the first index, counted from `at`, at which two lists differ or one of them ends
abbrev pub first_difference : {A : Type 0} → (A → A → Bool) → List A → List A → ℕ → Option ℕ
first_difference same [] [] at = None
first_difference same [] (y ∷ ys) at = Some at
first_difference same (x ∷ xs) [] at = Some at
first_difference same (x ∷ xs) (y ∷ ys) at = if same x y then first_difference same xs ys (at + 1) else Some at

-- the first of these, if there is one
abbrev pub first_of : List ℕ → Option ℕ
first_of [] = None
first_of (x ∷ xs) = Some x

-- the expected paragraph level, if there is one, is this one
abbrev pub agrees : Option ℕ → Option ℕ → Bool
agrees None level = true
agrees (Some claimed) level = same_position (Some claimed) level

-- the place in such a list, if there is an index
abbrev pub placed_in : (ℕ → Place) → Option ℕ → Option Place
placed_in place None = None
placed_in place (Some i) = Some (place i)

-- the first place at which these differ from the layout: the first paragraph's level, then the levels, then the orders
-- of all lines joined
abbrev pub wrong_place : Option ℕ → List (Option ℕ) → List ℕ → TextLayout → Option Place
wrong_place para_level levels order layout =
    if agrees para_level (first_of layout.paras)
    then option_or
    (placed_in Levels (first_difference same_position levels layout.levels 0))
    (placed_in Order (first_difference nat_eq order (all_orders layout) 0))
    else Some ParaLevel

-- the first place at which the layout of a row's text under the direction (P1 to L2), with the limits and without
-- breaks, differs from the expected one
abbrev pub wrong_place_under : LimitsOf → Expected → Direction → Option Place
wrong_place_under limits expected d =
    wrong_place expected.para_level expected.levels expected.order (layout_of limits expected.text d [])

-- the direction with the place, if there is one
abbrev pub with_place : Direction → Option Place → Option (Direction × Place)
with_place d None = None
with_place d (Some place) = Some (d, place)

-- the first of these directions whose case is wrong, and the place
abbrev pub wrong_case : LimitsOf → Expected → List Direction → Option (Direction × Place)
wrong_case limits expected [] = None
wrong_case limits expected (d ∷ ds) =
    option_or (with_place d (wrong_place_under limits expected d)) (wrong_case limits expected ds)

-- the failing verdict of a wrong case, if there is one
abbrev pub wrong_at : ℕ → Option (Direction × Place) → Option Verdict
wrong_at number None = None
wrong_at number (Some x) = Some (Wrong number x.0 x.1)

-- the failing verdict of the line of this number, if it is malformed or has a wrong case
abbrev pub no_of : LimitsOf → ℕ → Finding → Option Verdict
no_of limits number Silent = None
no_of limits number (Faulty cause) = Some (Malformed number cause)
no_of limits number (Row expected) = wrong_at number (wrong_case limits expected expected.directions)

-- the number of cases of a line: one for each direction that it names
abbrev pub cases_of : Finding → ℕ
cases_of Silent = 0
cases_of (Faulty cause) = 0
cases_of (Row expected) = length expected.directions

-- the line is a row
abbrev pub is_row : Finding → Bool
is_row (Row expected) = true
is_row _ = false

-- the failing verdict of the first of these lines that has one; there are k lines before them
abbrev pub first_no : LimitsOf → ℕ → List Finding → Option Verdict
first_no limits k [] = None
first_no limits k (f ∷ fs) = option_or (no_of limits (line_number k) f) (first_no limits (k + 1) fs)

-- the number of rows among these lines
abbrev pub rows_in : List Finding → ℕ
rows_in fs = saturated (count_by is_row fs)

-- the number of cases of these lines
abbrev pub cases_in : List Finding → ℕ
cases_in fs = saturated (sum_by cases_of fs)

-- the failing verdict, or else yes with the counts of these lines
abbrev pub or_yes : List Finding → Option Verdict → Verdict
or_yes fs (Some verdict) = verdict
or_yes fs None = Yes (rows_in fs) (cases_in fs)

-- the verdict on a file with these findings
unfoldable pub verdict_on : LimitsOf → List Finding → Verdict
verdict_on limits fs = or_yes fs (first_no limits 0 fs)

-- The meaning of a verdict on a file, with quantifiers over its lines, the directions that its rows name, and the
-- places of their lists.
use Rattle.std.specs.Prelude.{◌≡◌, ◌≢◌, ◌↔◌, Some, ℕ, ◌<◌, List, [], length, map, reverse, take, IfSome, slice_index_or}
use Rattle.std.specs.List.{slice_get, Contains}
use Rattle.units.specs.Layout.{TextLayout, layout_of, all_orders}
use Rattle.units.specs.Limits.{LimitsOf}
use Rattle.units.specs.declared.level.Direction.{Direction}
use Rattle.bidtests.specs.declared.kind.Kind.{Kind}
use Rattle.bidtests.specs.declared.kind.Kind.TheVariants.{Classes, Characters}
use Rattle.bidtests.specs.declared.verdict.Cause.{Cause}
use Rattle.bidtests.specs.declared.verdict.Place.{Place}
use Rattle.bidtests.specs.declared.verdict.Place.TheVariants.{ParaLevel, Levels, Order}
use Rattle.bidtests.specs.declared.verdict.Verdict.{Verdict}
use Rattle.bidtests.specs.declared.verdict.Verdict.TheVariants.{Yes, Malformed, Wrong}
use Rattle.bidtests.specs.Verdicts.{Expected, Finding, Row, Faulty, rows_in, cases_in}
use Rattle.units.specs.Lines.{line_number}
use Rattle.units.specs.Text.{lines_of}
use Rattle.bidtests.specs.FileKinds.{findings_by, verdict_of}
use Rattle.bidtests.specs.ClassesFile.{directions_in_order, classes_line, comes_to, levels_in_force, order_in_force}
use Rattle.bidtests.specs.CharactersFile.{characters_line}
use Rattle.ucdfiles.specs.Tables.{unit_by}

-- the finding of line k, after k lines: in a classes file it depends on the lists in force after these
abbrev pub line_comes_to : Kind → List (List ℕ) → ℕ → Finding
line_comes_to Classes lines k =
    let earlier = reverse (map classes_line (take k lines)) in
    comes_to (levels_in_force earlier) (order_in_force earlier) (classes_line (slice_index_or lines k []))
line_comes_to (Characters tables) lines k = characters_line (unit_by tables.now) (slice_index_or lines k [])

-- there are as many findings as lines, and each line of a file has the finding at its index
pub record ComeTo (kind : Kind) (lines : List (List ℕ)) (found : List Finding) : Type 0 where
  pub count : length found ≡ length lines
  pub each : (k : ℕ) → k < length lines → slice_get found k ≡ Some (line_comes_to kind lines k)

-- line k is malformed, for this cause, in a file with these findings
abbrev pub IsMalformed : List Finding → ℕ → Cause → Type 0
IsMalformed found k cause = slice_get found k ≡ Some (Faulty cause)

-- line k is a well-formed row, and expects this
abbrev pub IsRow : List Finding → ℕ → Expected → Type 0
IsRow found k expected = slice_get found k ≡ Some (Row expected)

-- P1 to L2: the layout of the row's text under the direction, with these limits, without breaks
abbrev pub layout_under : LimitsOf → Expected → Direction → TextLayout
layout_under limits expected direction = layout_of limits expected.text direction []

-- the expected paragraph level, if there is one, is that of the first paragraph
abbrev pub IsParaRight : LimitsOf → Expected → Direction → Type 0
IsParaRight limits expected direction =
    IfSome expected.para_level (λ level. slice_get (layout_under limits expected direction).paras 0 ≡ Some level)

-- the expected levels are those of the layout
abbrev pub AreLevelsRight : LimitsOf → Expected → Direction → Type 0
AreLevelsRight limits expected direction = expected.levels ≡ (layout_under limits expected direction).levels

-- the expected order is that of the layout's lines, joined
abbrev pub IsOrderRight : LimitsOf → Expected → Direction → Type 0
IsOrderRight limits expected direction = expected.order ≡ all_orders (layout_under limits expected direction)

-- all that the row expects is right under the direction
pub record IsCaseRight (limits : LimitsOf) (expected : Expected) (direction : Direction) : Type 0 where
  pub para_level : IsParaRight limits expected direction
  pub levels : AreLevelsRight limits expected direction
  pub order : IsOrderRight limits expected direction

-- the index is the first at which the lists differ or one of them ends: after its end a list has nothing
pub record IsFirstDifference {A : Type 0} (xs ys : List A) (i : ℕ) : Type 0 where
  pub before : (p : ℕ) → p < i → slice_get xs p ≡ slice_get ys p
  pub there : slice_get xs i ≢ slice_get ys i

-- the place is the first one at which the layout differs from the expected one: paragraph level, levels, order
abbrev pub IsWrongAt : LimitsOf → Expected → Direction → Place → Type 0
IsWrongAt limits expected direction ParaLevel = ¬ IsParaRight limits expected direction
IsWrongAt limits expected direction (Levels i) =
    IsParaRight limits expected direction ×
    IsFirstDifference expected.levels (layout_under limits expected direction).levels i
IsWrongAt limits expected direction (Order i) =
    IsParaRight limits expected direction × AreLevelsRight limits expected direction ×
    IsFirstDifference expected.order (all_orders (layout_under limits expected direction)) i

-- the first direction comes before the second in the order of directions
abbrev pub ComesBefore : Direction → Direction → Type 0
ComesBefore d e = (i : ℕ) × (j : ℕ) × (i < j) × (slice_get directions_in_order i ≡ Some d) ×
    (slice_get directions_in_order j ≡ Some e)

-- none of the first n lines is malformed, and each row is right under each direction that it names
pub record AreRight (limits : LimitsOf) (found : List Finding) (n : ℕ) : Type 0 where
  pub well_formed : (k : ℕ) (cause : Cause) → k < n → ¬ IsMalformed found k cause
  pub right : (k : ℕ) (expected : Expected) (d : Direction) → k < n → IsRow found k expected →
      Contains expected.directions d → IsCaseRight limits expected d

-- yes: all lines are right, and these are the numbers of rows and cases
pub record AllAreRight (limits : LimitsOf) (found : List Finding) (rows cases : ℕ) : Type 0 where
  pub all : AreRight limits found (length found)
  pub rows_counted : rows ≡ rows_in found
  pub cases_counted : cases ≡ cases_in found

-- malformed: the line of this number is malformed for this cause, and all earlier ones are right
pub record FirstIsMalformed (limits : LimitsOf) (found : List Finding) (number : ℕ) (cause : Cause) : Type 0 where
  pub k : ℕ
  pub numbered : number ≡ line_number k
  pub earlier : AreRight limits found k
  pub malformed : IsMalformed found k cause

-- wrong: the line of this number is a well-formed row that names the direction, its layout first differs from the
-- expected one at this place, and all earlier lines and the row's earlier directions are right
pub record FirstIsWrong (limits : LimitsOf) (found : List Finding) (number : ℕ) (direction : Direction)
    (place : Place) : Type 0 where
  pub k : ℕ
  pub numbered : number ≡ line_number k
  pub earlier : AreRight limits found k
  pub expected : Expected
  pub row : IsRow found k expected
  pub names : Contains expected.directions direction
  pub before : (d : Direction) → Contains expected.directions d → ComesBefore d direction →
      IsCaseRight limits expected d
  pub wrong : IsWrongAt limits expected direction place

-- the meaning of a verdict on a file with these findings
abbrev pub Says : LimitsOf → List Finding → Verdict → Type 0
Says limits found (Yes rows cases) = AllAreRight limits found rows cases
Says limits found (Malformed number cause) = FirstIsMalformed limits found number cause
Says limits found (Wrong number direction place) = FirstIsWrong limits found number direction place

-- the meaning of a verdict on these bytes, as the whole of a file of this kind
abbrev pub SaysOf : LimitsOf → Kind → List ℕ → Verdict → Type 0
SaysOf limits kind b verdict = Says limits (findings_by kind (lines_of b)) verdict

-- the verdict is yes with these numbers exactly if all lines are right and have so many rows and cases
abbrev pub YesIsExact : LimitsOf → Kind → List ℕ → Type 0
YesIsExact limits kind b = (rows cases : ℕ)
    → (verdict_of limits kind b ≡ Yes rows cases) ↔ AllAreRight limits (findings_by kind (lines_of b)) rows cases

-- the verdict is malformed with this number and cause exactly if this line is, and all lines before it are right
abbrev pub MalformedIsExact : LimitsOf → Kind → List ℕ → Type 0
MalformedIsExact limits kind b = (number : ℕ) (cause : Cause)
    → (verdict_of limits kind b ≡ Malformed number cause)
    ↔ FirstIsMalformed limits (findings_by kind (lines_of b)) number cause

-- the verdict is wrong with this number, direction and place exactly if that row is wrong there, and everything before
-- it is right
abbrev pub WrongIsExact : LimitsOf → Kind → List ℕ → Type 0
WrongIsExact limits kind b = (number : ℕ) (direction : Direction) (place : Place)
    → (verdict_of limits kind b ≡ Wrong number direction place)
    ↔ FirstIsWrong limits (findings_by kind (lines_of b)) number direction place

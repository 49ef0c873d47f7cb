-- The result of comparing a row with the layout of its text under one direction.
use Rattle.std.specs.Prelude.{◌≡◌, ◌≤◌, ◌+◌, ℕ, List, Some, None, [], ◌++◌, drop, nat_eq, IfSome, IsSome, length}
use Rattle.units.specs.Layout.{TextLayout, layout_of}
use Rattle.units.specs.Limits.{LimitsOf}
use Rattle.units.specs.Paragraphs.{paragraphs_of}
use Rattle.units.specs.declared.level.Direction.{Direction}
use Rattle.bidtests.specs.declared.compare.Comparison.{Comparison}
use Rattle.bidtests.specs.declared.compare.Comparison.TheVariants.{Differs, Agrees}
use Rattle.bidtests.specs.Verdicts.{Expected, first_difference, wrong_place_under}

-- with these limits, the layout under the direction is the expected one
abbrev pub HasNoWrongPlace : LimitsOf → Expected → Direction → Type 0
HasNoWrongPlace limits expected direction = wrong_place_under limits expected direction ≡ None

-- either the first place at which the layout under the direction differs from the expected one, or that there is none;
-- then another direction may be named under which there is none either, and one is named if the text has one paragraph
abbrev pub Compares : LimitsOf → Comparison → Expected → Direction → Type 0
Compares limits (Differs place) expected direction = wrong_place_under limits expected direction ≡ Some place
Compares limits (Agrees also_under) expected direction =
    HasNoWrongPlace limits expected direction × IfSome also_under (HasNoWrongPlace limits expected)
    × (length (paragraphs_of expected.text) ≡ 1 → IsSome also_under)

-- the same for a layout of the row's text without breaks, for each direction and all limits that give this layout
abbrev pub ComparesWith : TextLayout → Comparison → Expected → Type 0
ComparesWith layout comparison expected =
    (limits : LimitsOf) (direction : Direction) → layout ≡ layout_of limits expected.text direction []
    → Compares limits comparison expected direction

-- the expected order begins with the order of the line, so the search for the first difference continues after both
abbrev pub ContinuesAfter : List ℕ → List ℕ → Type 0
ContinuesAfter expected line = (length line ≤ length expected)
    × ((more : List ℕ) (at : ℕ) → first_difference nat_eq expected (line ++ more) at
    ≡ first_difference nat_eq (drop (length line) expected) more (at + length line))

-- whatever follows the order of a line, the first difference is at this index of the line
abbrev pub DiffersAt : List ℕ → List ℕ → ℕ → Type 0
DiffersAt expected line i =
    (i ≤ length expected) × ((more : List ℕ) (at : ℕ) →
    first_difference nat_eq expected (line ++ more) at ≡ Some (at + i))

-- Worked examples of expected values as they are read.
use Rattle.std.specs.Prelude.{◌≡◌, None, Some, ℕ, Option, List, [], ◌∷◌, refl}
use Rattle.units.specs.Layout.{TextLayout}
use Rattle.bidtests.specs.Verdicts.{Expected}
use Rattle.report.specs.ReadExpected.{levels_read, order_read, para_read, read_expected, strict}
use Rattle.report.specs.declared.terms.Parts.TheVariants as parts
use Rattle.report.specs.declared.terms.Positions.{Positions}
use Rattle.report.specs.declared.terms.Positions.TheVariants as positions

-- RLE R PDF from left to right: X9 removes the first and the last position
abbrev embedded : List (Option ℕ)
embedded = None ∷ Some 1 ∷ None ∷ []

-- if everything is compared, the expected values are read unchanged
pub all_read : (layout : TextLayout) (expected : Expected) → read_expected strict layout expected ≡ expected
all_read layout expected = refl

-- an engine that keeps the removed positions
pub removed_levels_read : levels_read parts.All positions.Shown embedded (Some 0 ∷ Some 1 ∷ Some 1 ∷ []) ≡ embedded
removed_levels_read = refl

pub removed_order_read : order_read positions.Shown embedded (0 ∷ 2 ∷ 1 ∷ []) ≡ 1 ∷ []
removed_order_read = refl

-- a level that is shown stays, even if it is expected to be removed
pub shown_levels_read : levels_read parts.All positions.Shown embedded (Some 0 ∷ None ∷ None ∷ []) ≡
    None ∷ None ∷ None ∷ []
shown_levels_read = refl

-- a list with another length than the text keeps its length
pub short_levels_read : levels_read parts.All positions.Shown embedded (Some 0 ∷ []) ≡ None ∷ []
short_levels_read = refl

pub long_levels_read : levels_read parts.All positions.Shown embedded (None ∷ Some 1 ∷ None ∷ Some 0 ∷ []) ≡
    None ∷ Some 1 ∷ None ∷ Some 0 ∷ []
long_levels_read = refl

-- positions after the text's end stay in an order
pub past_end_order_read : order_read positions.Shown embedded (2 ∷ 1 ∷ 3 ∷ 0 ∷ []) ≡ 1 ∷ 3 ∷ []
past_end_order_read = refl

-- if only the order is compared, neither the paragraph's level nor the levels are read
pub order_alone_levels_read : (compared : Positions) (claimed : List (Option ℕ)) →
    levels_read parts.OrderAlone compared embedded claimed ≡ embedded
order_alone_levels_read compared claimed = refl

pub order_alone_para_read : (claimed : Option ℕ) → para_read parts.OrderAlone claimed ≡ None
order_alone_para_read claimed = refl

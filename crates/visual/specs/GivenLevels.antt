-- L1 and L2 for levels that a caller gives: one for each position, also for those that X9 removes.
use Rattle.std.specs.Prelude.{ℕ, ◌≡◌, ◌<◌, ◌%◌, ◌==◌, Bool, ◌&&◌, ◌||◌, not, if◌then◌else◌, Option, Some, List, [], length, map, reverse, slice_index, slice_index_or}
use Rattle.units.specs.Classes.{class_at, is_line_separator}
use Rattle.units.specs.Positions.{positions_of}
use Rattle.units.specs.Reordering.{ends_spaces, is_solid, next_solid}
use Rattle.units.specs.declared.class.Class.{Class}

-- these levels, as those of positions that are present
abbrev pub all_present : List ℕ → List (Option ℕ)
all_present levels = map (λ level. Some level) levels

-- positions from left to right, as read in the direction of a level: unchanged if it is even, reversed if it is odd
abbrev pub read_at : ℕ → List ℕ → List ℕ
read_at level order = if level % 2 == 0 then order else reverse order

-- L1, and section 5.2 of UAX #9: the position of a line takes the level of the paragraph if it is a separator. So do
-- white space, isolate formatting characters and removed positions, if only such positions are after them up to a
-- separator or the line's end
abbrev pub is_reset_in : List Class → ℕ → Bool
is_reset_in own p =
    is_line_separator (class_at own p) || (not (is_solid (class_at own p)) && ends_spaces own (next_solid own [] p))

-- the levels of a line after L1, from the classes of its positions and the level of its paragraph
unfoldable pub levels_reset_in : List Class → ℕ → List ℕ → List ℕ
levels_reset_in own para_level levels =
    map (λ p. if is_reset_in own p then para_level else slice_index levels p) (positions_of levels)

-- these are the classes of the items, each whatever is returned of its item
pub record AreClassesBy {A : Type 0} (Returns : A → Class → Type 0) (items : List A) (classes : List Class) :
    Type 0 where
  pub len : length classes ≡ length items
  pub each : (p : ℕ) (item : A) (class : Class) → p < length items → item ≡ slice_index_or items p item →
      Returns item class → class ≡ class_at classes p

-- The directions in the value of an option.
use Rattle.std.specs.Prelude.{◌≡◌, ◌<◌, ◌⊎◌, Bool, ℕ, List, [], ◌∷◌, length, Option, Some, find}
use Rattle.std.specs.Str.{bytes_eq}
use Rattle.units.specs.Text.{each_read, items_of}
use Rattle.units.specs.declared.level.Direction.{Direction}
use Rattle.units.specs.declared.level.Direction.TheVariants.{Auto, Ltr, Rtl, AutoRtl}
use Rattle.bidtests.specs.VerdictText.{direction_word}
use Rattle.requests.specs.ItemWords.{EndsItems}
use Rattle.requests.specs.declared.fault.Fault.{Fault}
use Rattle.requests.specs.declared.fault.Fault.TheVariants.{NoDirection, NoDirections}

-- an item is the word for this direction
abbrev pub is_direction_word : List ℕ → Direction → Bool
is_direction_word word direction = bytes_eq (direction_word direction) word

-- the direction of a word: `auto`, `ltr`, `rtl` or `auto-rtl`
abbrev pub direction_of : List ℕ → Option Direction
direction_of word = find (is_direction_word word) (Auto ∷ Ltr ∷ Rtl ∷ AutoRtl ∷ [])

-- the directions of the items that blanks separate, or none if an item is not a direction
abbrev pub directions_named : List ℕ → Option (List Direction)
directions_named word = each_read direction_of (items_of word)

-- a value lists these directions, one or more
pub record SaysDirections (word : List ℕ) (directions : List Direction) : Type 0 where
  pub named : directions_named word ≡ Some directions
  pub some : 0 < length directions

-- when a fault ends the reading of directions: at the first item that is not a direction, or if there is no item
abbrev pub EndsDirections : List ℕ → Fault → Type 0
EndsDirections word fault =
    EndsItems direction_of NoDirection word fault ⊎ ((fault ≡ NoDirections) × (directions_named word ≡ Some []))

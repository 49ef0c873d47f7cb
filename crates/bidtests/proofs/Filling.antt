-- A list that is filled with the items of a field.
use Rattle.std.proofs.Common.{◌≡◌, ℕ, ◌+◌, ◌*◌, ◌<◌, ◌≤◌, Option, List, length}
use Rattle.units.specs.Text.{items_of, each_read}
use Rattle.bidtests.specs.ShortItems.{read_after}

module _ {A : Type 0} (reading : List ℕ → Option A) where
  -- these items were read, and this is the rest of the field
  pub record Fills (field remaining : List ℕ) (items : List A) : Type 0 where
    pub read : read_after items (each_read reading (items_of remaining)) ≡ each_read reading (items_of field)
    pub room : 2 * length items ≤ length field + 1
    pub more : 0 < length remaining → 2 * length items + length remaining ≤ length field

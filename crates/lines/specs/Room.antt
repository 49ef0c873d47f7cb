-- The capacity of a column, and how much of it is used.
use Rattle.std.specs.Prelude.{ℕ, ◌≤◌, length}
use Rattle.std.specs.Box.{boxed_slice_items}
use Rattle.std.specs.declared.boxed.BoxedSlice.{BoxedSlice}

-- the number of items of a column
abbrev pub items_in : {A Z : Type 0} → BoxedSlice A Z → ℕ
items_in column = length (boxed_slice_items column)

-- the columns use no more than their capacity
pub record IsWithinRoom (room units paragraphs lines positions : ℕ) : Type 0 where
  pub of_levels : units ≤ room
  pub of_paras : paragraphs ≤ room
  pub of_bounds : lines ≤ room
  pub of_orders : positions ≤ room

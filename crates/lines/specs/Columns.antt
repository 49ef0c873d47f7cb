-- The contents of the columns of a scratch, and their capacity.
use Rattle.std.specs.Prelude.{ℕ, ◌≤◌, ◌<◌, ◌≡◌, ◌+◌, Bool, if◌then◌else◌, Option, List, take}
use Rattle.std.specs.Box.{boxed_slice_items}
use Rattle.units.specs.Layout.{LineLayout, longest_text}
use Rattle.units.specs.declared.level.ParaLevel.{ParaLevel}
use Rattle.lines.specs.Bounds.{lines_in}
use Rattle.lines.specs.Room.{items_in}
use Rattle.lines.specs.declared.bounds.Bound.{Bound}
use Rattle.lines.specs.declared.columns.LineColumns.{LineColumns}
use Rattle.lines.specs.declared.columns.TextColumns.{TextColumns}
use Rattle.lines.specs.declared.filling.Filled.{Filled}

-- the levels of the first `paragraphs` paragraphs
abbrev pub paras_filled : ℕ → TextColumns → List ParaLevel
paras_filled paragraphs columns = take paragraphs (boxed_slice_items columns.paras)

-- the levels of the first `units` positions
abbrev pub levels_filled : ℕ → TextColumns → List (Option ℕ)
levels_filled units columns = take units (boxed_slice_items columns.levels)

-- P1: the ends of the first `paragraphs` paragraphs
abbrev pub para_ends_filled : ℕ → TextColumns → List ℕ
para_ends_filled paragraphs columns = take paragraphs (boxed_slice_items columns.para_ends)

-- P1 to I2: the column with the resolved levels before L1; L1 changes no level of a uniform text, so that it is then
-- the column of levels
abbrev pub resolved_column : Bool → TextColumns → List (Option ℕ)
resolved_column uniform columns =
    if uniform then boxed_slice_items columns.levels else boxed_slice_items columns.resolved

-- the resolved levels of the first `units` positions
abbrev pub resolved_filled : ℕ → Bool → TextColumns → List (Option ℕ)
resolved_filled units uniform columns = take units (resolved_column uniform columns)

-- the bounds of lines, those of this layout and then some of earlier ones
abbrev pub bounds_in : LineColumns → List Bound
bounds_in columns = boxed_slice_items columns.bounds

-- the orders of this layout
abbrev pub orders_filled : Filled → LineColumns → List ℕ
orders_filled filled columns = take filled.positions (boxed_slice_items columns.orders)

-- the bounds of this layout, one more than lines
abbrev pub bounds_filled : Filled → LineColumns → List Bound
bounds_filled filled columns = take (filled.lines + 1) (bounds_in columns)

-- the lines of this layout
abbrev pub lines_filled : Filled → LineColumns → List LineLayout
lines_filled filled columns = lines_in (orders_filled filled columns) (bounds_filled filled columns)

-- the columns of a text with this capacity: each has an item for each unit
pub record IsTextRoom (columns : TextColumns) (units : ℕ) : Type 0 where
  pub paras : items_in columns.paras ≡ units
  pub para_ends : items_in columns.para_ends ≡ units
  pub levels : items_in columns.levels ≡ units
  pub resolved : items_in columns.resolved ≡ units

-- the columns of its lines: there is one more bound than units
pub record IsLineRoom (columns : LineColumns) (units : ℕ) : Type 0 where
  pub runs : items_in columns.runs ≡ units
  pub orders : items_in columns.orders ≡ units
  pub bounds : items_in columns.bounds ≡ units + 1

-- the columns have the capacity for a text of this number of units
pub record HasTextRoom (columns : TextColumns) (units : ℕ) : Type 0 where
  pub paras : units ≤ items_in columns.paras
  pub para_ends : units ≤ items_in columns.para_ends
  pub levels : units ≤ items_in columns.levels
  pub resolved : units ≤ items_in columns.resolved

-- the columns have the capacity for the lines of such a text
pub record HasLineRoom (columns : LineColumns) (units : ℕ) : Type 0 where
  pub runs : units ≤ items_in columns.runs
  pub orders : units ≤ items_in columns.orders
  pub bounds : units < items_in columns.bounds

-- the columns of a text don't grow
pub record KeepsTextRoom (old new : TextColumns) : Type 0 where
  pub paras : items_in new.paras ≡ items_in old.paras
  pub para_ends : items_in new.para_ends ≡ items_in old.para_ends
  pub levels : items_in new.levels ≡ items_in old.levels
  pub resolved : items_in new.resolved ≡ items_in old.resolved

-- the columns of lines don't grow
pub record KeepsLineRoom (old new : LineColumns) : Type 0 where
  pub runs : items_in new.runs ≡ items_in old.runs
  pub orders : items_in new.orders ≡ items_in old.orders
  pub bounds : items_in new.bounds ≡ items_in old.bounds

-- all columns have the same capacity, which is at most that of the longest text
pub record HaveRoom (room for_paragraphs : ℕ) (text : TextColumns) (lines : LineColumns) : Type 0 where
  pub most : room ≤ longest_text
  pub paragraphs : for_paragraphs ≡ room
  pub for_text : IsTextRoom text room
  pub for_lines : IsLineRoom lines room

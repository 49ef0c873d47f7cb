-- What the columns of a room contain.
use Rattle.std.specs.Prelude.{ℕ, Bool, true, false, ◌≡◌, ◌+◌, ◌≤◌, Option, Some, None, List, length, slice_index, take}
use Rattle.std.specs.Box.{boxed_slice_items}
use Rattle.lines.specs.Scratches.{room_of, layout_in, HoldsText, IsFilled}
use Rattle.decoding.specs.Starts.{AreOffsets}
use Rattle.room.specs.OrderedLines.{LinesHaveOrder}
use Rattle.room.specs.Rooms.{RoomOf}
use Rattle.room.specs.declared.room.Room.TheInside.{Inside}

-- the offsets at which characters begin, if these aren't positions
abbrev pub offsets_if : Bool → List ℕ → Option (List ℕ)
offsets_if true starts = Some starts
offsets_if false starts = None

-- a room as its callers see it
abbrev pub seen : Inside → RoomOf
seen a =
    record {
      capacity = room_of a.scratch;
      encodes = a.encodes;
      text = record {
        units = take (length (layout_in a.scratch).levels) (boxed_slice_items a.units);
        direction = a.direction;
        limits = a.limits;
        offsets = offsets_if a.spelled (take (length (layout_in a.scratch).levels + 1) (boxed_slice_items a.starts));
      };
      layout = layout_in a.scratch;
    }

-- the columns of a room with offsets have an item for each code unit of its capacity, and those of offsets one more
pub record HaveCapacity (capacity units spare_units starts spare indices : ℕ) : Type 0 where
  pub for_units : units ≡ capacity
  pub for_spare_units : spare_units ≡ capacity
  pub for_starts : starts ≡ capacity + 1
  pub for_spare : spare ≡ capacity + 1
  pub for_indices : indices ≡ capacity

-- the columns that only a room with offsets needs have no items
pub record HaveNoItems (spare_units starts spare indices : ℕ) : Type 0 where
  pub of_spare_units : spare_units ≡ 0
  pub of_starts : starts ≡ 0
  pub of_spare : spare ≡ 0
  pub of_indices : indices ≡ 0

-- the scratch contains the text with its layout, and each column has the length that a room of its kind needs
pub record IsRoom (a : Inside) : Type 0 where
  pub filled : IsFilled a.scratch
  pub fits : length (boxed_slice_items a.units) ≡ room_of a.scratch
  pub holds : HoldsText a.limits (take (length (layout_in a.scratch).levels) (boxed_slice_items a.units)) a.direction
      a.scratch
  pub in_order : LinesHaveOrder (layout_in a.scratch)
  pub columns : a.encodes ≡ true →
      HaveCapacity (room_of a.scratch) (length (boxed_slice_items a.units)) (length (boxed_slice_items a.spare_units))
      (length (boxed_slice_items a.starts)) (length (boxed_slice_items a.spare)) (length (boxed_slice_items a.indices))
  pub no_columns : a.encodes ≡ false →
      HaveNoItems (length (boxed_slice_items a.spare_units)) (length (boxed_slice_items a.starts))
      (length (boxed_slice_items a.spare)) (length (boxed_slice_items a.indices))
  pub spelled : a.spelled ≡ true → a.encodes ≡ true
  pub begun : a.spelled ≡ true → AreOffsets (length (layout_in a.scratch).levels) (boxed_slice_items a.starts)
  pub ends : a.spelled ≡ true → slice_index (boxed_slice_items a.starts) (length (layout_in a.scratch).levels) ≤
      room_of a.scratch

-- The memory with which the rows of texts are made, and what is written if it runs out.
use Rattle.std.specs.Prelude.{◌≡◌, ◌≤◌, ℕ, List, Option, length}
use Rattle.lines.specs.Scratches.{room_of}
use Rattle.printing.specs.declared.fault.PrintFault.{PrintFault}
use Rattle.printing.specs.declared.fault.PrintFault.TheVariants.{Memory, Write}
use Rattle.rows.specs.declared.room.RowRoom.{RowRoom}

-- there is capacity for a text of this length
pub record HasRowRoom (len : ℕ) (room : RowRoom) : Type 0 where
  pub scratch : len ≤ room_of room.scratch
  pub units : len ≤ length room.units.items

-- the capacity is unchanged
pub record KeepsRowRoom (old new : RowRoom) : Type 0 where
  pub scratch : room_of new.scratch ≡ room_of old.scratch
  pub units : length new.units.items ≡ length old.units.items

-- what was written if a fault occurs: if memory is refused, nothing after what was written before
abbrev pub FaultLeaves : Option (List ℕ) → Option (List ℕ) → PrintFault → Type 0
FaultLeaves before after Memory = after ≡ before
FaultLeaves before after Write = Unit {0}

-- Capacity that is unchanged.
use Rattle.std.proofs.Common.{refl, ◌∙◌}
use Rattle.rows.specs.Rooms.{KeepsRowRoom}
use Rattle.rows.specs.declared.room.RowRoom.{RowRoom}

pub room-unchanged : (room : RowRoom) → KeepsRowRoom room room
room-unchanged room = record { scratch = refl; units = refl }

pub room-still : (first then last : RowRoom) → KeepsRowRoom first then → KeepsRowRoom then last →
    KeepsRowRoom first last
room-still first then last a b = record { scratch = b.scratch ∙ a.scratch; units = b.units ∙ a.units }

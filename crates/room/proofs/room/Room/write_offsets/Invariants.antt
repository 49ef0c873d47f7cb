use Rattle.std.proofs.Common.{◌≡◌, map, take}
use Rattle.room.specs.Rooms.{offset_in}
use Rattle.room.proofs.room.Room.write_offsets.Given as goal

-- the offsets before i are written
abbrev pub invariant-loop-i : goal.invariant-loop-i
invariant-loop-i l = take l.i l.out ≡ map (offset_in l.self) (take l.i l.order)

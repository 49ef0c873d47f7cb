use Rattle.std.proofs.Common.{◌≡◌, ◌≤◌, ℕ, length, map, slice_index, take}
use Rattle.room.specs.Rooms.{offset_in}
use Rattle.room.proofs.room.Room.turn_to_offsets.Given as goal

-- the characters before i are turned to offsets, and the others stay
abbrev pub invariant-loop-i : goal.invariant-loop-i
invariant-loop-i l = record {
  len : length l.order ≡ length l.fn.order;
  turned : take l.i l.order ≡ map (offset_in l.self) (take l.i l.fn.order);
  unchanged : (j : ℕ) → l.i ≤ j → slice_index l.order j ≡ slice_index l.fn.order j;
}

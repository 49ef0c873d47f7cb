use Rattle.std.proofs.Common.{◌<◌, ◌+◌, ℕ, length, slice_index}
use Rattle.room.specs.Places.{IsPlace}
use Rattle.room.proofs.room.Room.fill_places.Given as goal

-- the places before this one are written
abbrev pub invariant-loop-place : goal.invariant-loop-place
invariant-loop-place l = (i : ℕ) → i < length l.out → IsPlace l.self l.order l.place (l.start + i) (slice_index l.out i)

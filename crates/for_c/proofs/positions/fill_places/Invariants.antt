use Rattle.std.proofs.Common.{◌≡◌, ◌<◌, ◌+◌, ℕ, length, slice_index}
use Rattle.room.specs.Places.{IsPlaceOf}
use Rattle.for_c.specs.Positions.{IsSamePosition}
use Rattle.for_c.proofs.positions.fill_places.Given as goal

-- the places before this one are written
abbrev pub invariant-loop-place : goal.invariant-loop-place
invariant-loop-place l = (length l.out ≡ length l.fn.out) × ((i : ℕ) → i < length l.out →
    IsPlaceOf (IsSamePosition (l.start + i)) l.order l.place (slice_index l.out i))

use Rattle.std.proofs.Common.{◌<◌, ℕ, slice_index}
use Rattle.std.specs.Prelude.{None, length, slice_index_or, ◌≡◌}
use Rattle.room.specs.Showing.{IsShown}
use Rattle.room.proofs.room.Room.fill_shown.Given as goal

-- the code points before i are written
abbrev pub invariant-loop-i : goal.invariant-loop-i
invariant-loop-i l = record {
  len : length l.out ≡ length l.fn.out;
  shown : (j : ℕ) → j < l.i →
      IsShown l.tables (slice_index_or l.self.layout.levels (slice_index l.order j) None)
      (slice_index l.codes (slice_index l.order j)) (slice_index l.out j);
}

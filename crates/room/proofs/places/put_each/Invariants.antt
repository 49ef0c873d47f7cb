use Rattle.std.proofs.Common.{◌≡◌, ◌<◌, ◌≤◌, ℕ, length}
use Rattle.std.specs.Prelude.{◌⊎◌, slice_index_or}
use Rattle.room.proofs.places.put_each.Given as goal

-- the value is written before i, and nothing else is
abbrev pub invariant-loop-i : goal.invariant-loop-i
invariant-loop-i g l = record {
  len : length l.out ≡ length l.fn.out;
  reach : (j : ℕ) → l.start ≤ j → l.end ≤ j → l.i ≤ j;
  put : (j : ℕ) (d : g.row.T.Denot) → l.start ≤ j → j < l.i → slice_index_or l.out j d ≡ l.value;
  others : (j : ℕ) (d : g.row.T.Denot) → (j < l.start) ⊎ (l.i ≤ j) →
      slice_index_or l.out j d ≡ slice_index_or l.fn.out j d;
}

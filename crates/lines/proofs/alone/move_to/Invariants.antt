use Rattle.std.proofs.Common.{◌≡◌, ◌<◌, ◌≤◌, ◌+◌, ℕ, get_or}
use Rattle.lines.proofs.alone.move_to.Given as goal

abbrev pub invariant-loop-place : goal.invariant-loop-place
invariant-loop-place g l =
    record {
      moved : (k : ℕ) → k < l.place-index → get_or l.places k 0 ≡ l.start + get_or l.initial.places k 0;
      ahead : (k : ℕ) → l.place-index ≤ k → get_or l.places k 0 ≡ get_or l.initial.places k 0;
    }

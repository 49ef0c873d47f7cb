use Rattle.std.proofs.Common.{◌≡◌, ℕ, ◌<◌, ◌+◌, None, slice_index}
use Rattle.resolve.specs.Pairs.{closer_in, KeepsOtherClosers}
use Rattle.resolve.proofs.pairs.clear.Given as goal

abbrev pub invariant-loop-position : goal.invariant-loop-position
invariant-loop-position g l =
    ((k : ℕ) → k < l.position-index → closer_in l.closers (slice_index l.positions k) ≡ None)
    × KeepsOtherClosers l.positions l.initial.closers l.closers
    × (l.steps ≡ l.initial.steps + l.position-index)

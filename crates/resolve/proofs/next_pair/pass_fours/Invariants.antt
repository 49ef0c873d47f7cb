use Rattle.std.proofs.Common.{◌≡◌, ◌≤◌, ◌+◌, ◌-◌, length}
use Rattle.resolve.specs.NextPairs.{NoneBegins}
use Rattle.resolve.proofs.next_pair.pass_fours.Given as goal

abbrev pub invariant-loop-k : goal.invariant-loop-k
invariant-loop-k g l =
    (l.from ≤ l.k)
    × (l.k ≤ length l.positions)
    × NoneBegins l.pairs l.positions l.from l.k
    × (l.steps + l.from ≡ l.fn.steps + l.k)

abbrev pub decreases-loop-k : goal.decreases-loop-k
decreases-loop-k g l = length l.positions - l.k

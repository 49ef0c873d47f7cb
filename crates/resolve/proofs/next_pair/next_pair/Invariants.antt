use Rattle.std.proofs.Common.{◌≡◌, ◌≤◌, ◌+◌}
use Rattle.resolve.specs.NextPairs.{NoneBegins}
use Rattle.resolve.proofs.next_pair.next_pair.Given as goal

abbrev pub invariant-loop-k : goal.invariant-loop-k
invariant-loop-k g l =
    (l.from ≤ l.k)
    × NoneBegins l.pairs l.positions l.from l.k
    × (l.steps + l.from ≡ l.fn.steps + l.k)

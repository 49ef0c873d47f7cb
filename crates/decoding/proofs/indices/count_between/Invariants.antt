use Rattle.std.proofs.Common.{◌≤◌, ◌+◌, ◌-◌}
use Rattle.decoding.specs.Starts.{IsCountedBetween}
use Rattle.decoding.proofs.indices.count_between.Given as goal

abbrev pub invariant-loop-k : goal.invariant-loop-k
invariant-loop-k l =
    record { few : l.few ≤ l.k - l.first; counted : IsCountedBetween l.starts l.at l.first l.k (l.first + l.few) }

use Rattle.std.proofs.Common.{◌+◌}
use Rattle.decoding.specs.Starts.{IsNarrowed}
use Rattle.decoding.proofs.indices.count_halving.Given as goal

abbrev pub invariant-loop-size : goal.invariant-loop-size
invariant-loop-size l = IsNarrowed l.starts l.at l.first (l.first + l.size)

abbrev pub decreases-loop-size : goal.decreases-loop-size
decreases-loop-size l = l.size

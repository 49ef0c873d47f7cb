use Rattle.std.proofs.Common.{◌≡◌, ◌+◌}
use Rattle.units.specs.Runs.{size_of}
use Rattle.sequences.proofs.Backward.{IsAfter}
use Rattle.sequences.specs.BackwardPasses.{BackwardPass}
use Rattle.sequences.proofs.linking.link.Given as goal

abbrev pub invariant-loop-p : goal.invariant-loop-p
invariant-loop-p g l =
    BackwardPass l.t l.p l.following.next l.links l.ends l.joined
    × IsAfter l.t l.following
    × (l.steps + l.p ≡ l.fn.steps + size_of l.t)

abbrev pub decreases-loop-p : goal.decreases-loop-p
decreases-loop-p g l = l.p

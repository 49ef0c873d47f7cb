use Rattle.std.proofs.Common.{◌≡◌, ◌≤◌, ◌+◌}
use Rattle.sequences.proofs.Backward.{IsLinkedBackTo}
use Rattle.sequences.proofs.linking.link_level.Given as goal

abbrev pub invariant-loop-p : goal.invariant-loop-p
invariant-loop-p g l = record {
  before : l.p ≤ l.from.position;
  linked : IsLinkedBackTo l.t l.p l.from.level l.from.end l.links l.ends l.joined;
  steps : l.steps + l.p ≡ l.fn.steps + l.from.position;
}

abbrev pub decreases-loop-p : goal.decreases-loop-p
decreases-loop-p g l = l.p

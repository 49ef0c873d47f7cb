use Rattle.std.proofs.Common.{◌≡◌, ◌+◌, ◌<◌, ℕ, Some}
use Rattle.sequences.specs.Links.{link_at}
use Rattle.sequences.proofs.one_sequence.link_successive.Given as goal

abbrev pub invariant-loop-p : goal.invariant-loop-p
invariant-loop-p g l = record {
  linked : (q : ℕ) → q < l.p → link_at l.links q ≡ Some (q + 1);
  steps : l.steps ≡ l.initial.steps + l.p;
}

use Rattle.std.proofs.Common.{◌≡◌, ◌+◌}
use Rattle.sequences.proofs.Remaining.{AreLinked}
use Rattle.sequences.proofs.one_sequence.link_all.Given as goal

abbrev pub invariant-loop-k : goal.invariant-loop-k
invariant-loop-k g l = record {
  linked : AreLinked l.positions l.k l.links;
  steps : l.steps ≡ l.initial.steps + l.k;
}

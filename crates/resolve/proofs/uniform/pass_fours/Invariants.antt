use Rattle.std.proofs.Common.{◌≡◌, ◌+◌, ◌-◌, length}
use Rattle.resolve.specs.Repeats.{AreWithout}
use Rattle.resolve.proofs.uniform.pass_fours.Given as goal

abbrev pub invariant-loop-k : goal.invariant-loop-k
invariant-loop-k g l = record {
  without : AreWithout l.set l.positions 0 l.k l.classes;
  steps : l.steps ≡ l.initial.steps + l.k;
}

abbrev pub decreases-loop-k : goal.decreases-loop-k
decreases-loop-k g l = length l.positions - l.k

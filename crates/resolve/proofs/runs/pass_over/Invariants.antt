use Rattle.std.proofs.Common.{◌≡◌, ◌+◌, ◌-◌, length}
use Rattle.resolve.specs.Repeats.{ArePassed}
use Rattle.resolve.proofs.runs.pass_over.Given as goal

abbrev pub invariant-loop-k : goal.invariant-loop-k
invariant-loop-k g l = record {
  passed : ArePassed l.fn.strong l.positions l.start l.k l.classes;
  steps : l.steps + l.start ≡ l.initial.steps + l.k;
}

abbrev pub decreases-loop-k : goal.decreases-loop-k
decreases-loop-k g l = length l.positions - l.k

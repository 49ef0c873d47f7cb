use Rattle.std.proofs.Common.{◌≡◌, ◌+◌, ◌-◌, length}
use Rattle.resolve.specs.Repeats.{with_along, IsRunOf}
use Rattle.resolve.proofs.runs.give_run.Given as goal

abbrev pub invariant-loop-k : goal.invariant-loop-k
invariant-loop-k g l = record {
  run : IsRunOf l.class l.positions l.start l.k l.initial.classes;
  classes : l.classes ≡ with_along l.positions l.start (l.k - l.start) l.made l.initial.classes;
  steps : l.steps + l.start ≡ l.initial.steps + l.k;
}

abbrev pub decreases-loop-k : goal.decreases-loop-k
decreases-loop-k g l = length l.positions - l.k

use Rattle.std.proofs.Common.{◌≡◌, ◌+◌, ◌-◌, Some, length}
use Rattle.resolve.specs.Repeats.{with_along, IsRunOf}
use Rattle.resolve.proofs.runs.give_run_levels.Given as goal

abbrev pub invariant-loop-k : goal.invariant-loop-k
invariant-loop-k g l = record {
  run : IsRunOf l.fn.resolution.class l.positions l.start l.k l.initial.classes;
  classes : l.classes ≡ with_along l.positions l.start (l.k - l.start) l.fn.resolution.made l.initial.classes;
  levels : l.levels ≡ with_along l.positions l.start (l.k - l.start) (Some l.fn.resolution.level) l.initial.levels;
  steps : l.steps + l.start ≡ l.initial.steps + l.k;
}

abbrev pub decreases-loop-k : goal.decreases-loop-k
decreases-loop-k g l = length l.positions - l.k

use Rattle.std.proofs.Common.{◌≡◌, ◌+◌}
use Rattle.compress.specs.Laid.{IsRun}
use Rattle.compress.proofs.levels.write_remaining.Given as goal

abbrev pub invariant-loop-p : goal.invariant-loop-p
invariant-loop-p g l = record {
  run : IsRun l.para l.start l.p l.level l.initial.levels l.levels;
  steps : l.steps + l.start ≡ l.initial.steps + l.p;
}

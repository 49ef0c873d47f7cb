use Rattle.std.proofs.Common.{◌≡◌, ◌+◌, Some, take}
use Rattle.std.specs.Prelude.{replicate}
use Rattle.lines.proofs.positions.write_level.Given as goal

abbrev pub invariant-loop-k : goal.invariant-loop-k
invariant-loop-k g l = record {
  written : take l.k l.levels ≡ replicate l.k (Some l.level);
  steps : l.steps ≡ l.initial.steps + l.k;
}

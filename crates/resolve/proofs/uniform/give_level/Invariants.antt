use Rattle.std.proofs.Common.{◌≡◌, ◌+◌, ◌-◌, Some}
use Rattle.resolve.specs.Repeats.{with_along}
use Rattle.resolve.proofs.uniform.give_level.Given as goal

abbrev pub invariant-loop-k : goal.invariant-loop-k
invariant-loop-k g l = record {
  levels : l.levels ≡ with_along l.positions 0 (l.k - 0) (Some l.level) l.initial.levels;
  steps : l.steps ≡ l.initial.steps + l.k;
}

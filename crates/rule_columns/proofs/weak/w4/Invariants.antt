use Rattle.std.proofs.Common.{◌≡◌, ◌+◌}
use Rattle.rule_columns.proofs.Separators.{SeparatorPass}
use Rattle.rule_columns.proofs.weak.w4.Given as goal

abbrev pub invariant-loop-k : goal.invariant-loop-k
invariant-loop-k g l = SeparatorPass l.positions l.initial.classes l.classes l.before l.k ×
    (l.steps ≡ l.initial.steps + l.k)

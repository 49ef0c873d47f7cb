use Rattle.std.proofs.Common.{◌≡◌, ◌+◌}
use Rattle.units.specs.Weak.{by_w6}
use Rattle.rule_columns.proofs.RulePasses.{EachPass}
use Rattle.rule_columns.proofs.weak.w6.Given as goal

abbrev pub invariant-loop-position : goal.invariant-loop-position
invariant-loop-position g l = EachPass by_w6 l.positions l.initial.classes l.classes l.position-index ×
    (l.steps ≡ l.initial.steps + l.position-index)

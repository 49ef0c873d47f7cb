use Rattle.std.proofs.Common.{◌≡◌, ◌+◌}
use Rattle.units.specs.Weak.{by_w1}
use Rattle.units.specs.Classes.{is_base}
use Rattle.rule_columns.proofs.RulePasses.{NearestPass}
use Rattle.rule_columns.proofs.weak.w1.Given as goal

abbrev pub invariant-loop-position : goal.invariant-loop-position
invariant-loop-position g l =
    NearestPass by_w1 is_base l.s.sos l.positions l.initial.classes l.classes l.base l.position-index ×
    (l.steps ≡ l.initial.steps + l.position-index)

use Rattle.std.proofs.Common.{◌≡◌, ◌+◌}
use Rattle.units.specs.Weak.{by_w2}
use Rattle.units.specs.Classes.{is_strong}
use Rattle.rule_columns.proofs.RulePasses.{NearestPass}
use Rattle.rule_columns.proofs.weak.w2.Given as goal

abbrev pub invariant-loop-position : goal.invariant-loop-position
invariant-loop-position g l =
    NearestPass by_w2 is_strong l.s.sos l.positions l.initial.classes l.classes l.strong l.position-index ×
    (l.steps ≡ l.initial.steps + l.position-index)

use Rattle.rule_columns.proofs.RulePasses.{EachPass}
use Rattle.rule_columns.specs.Passes.{by_n2}
use Rattle.rule_columns.proofs.neutral.n2.Given as goal

abbrev pub invariant-loop-position : goal.invariant-loop-position
invariant-loop-position l = EachPass (by_n2 l.embedding) l.positions l.initial.classes l.classes l.position-index

use Rattle.units.specs.Classes.{classes_at}
use Rattle.rule_columns.specs.Runs.{in_run, taken_by}
use Rattle.rule_columns.proofs.Settles.{SettlePass}
use Rattle.rule_columns.proofs.StepCounts.{StepCount}
use Rattle.rule_columns.proofs.runs.settle.Given as goal

abbrev pub invariant-loop-k : goal.invariant-loop-k
invariant-loop-k g l =
    SettlePass (in_run l.run) (taken_by l.run) l.fn.start l.end l.positions l.initial.classes l.classes l.before l.ahead
    l.k
    × StepCount (in_run l.run) (classes_at l.initial.classes l.positions) l.k l.ahead l.initial.steps l.steps

use Rattle.units.specs.Classes.{classes_at}
use Rattle.resolve.specs.Neutrals.{sides_of, by_run, sides_past, owed_in_run}
use Rattle.resolve.proofs.StatePasses.{StatePass, StatePassSteps}
use Rattle.resolve.proofs.neutral.neutral.Given as goal

abbrev pub invariant-loop-k : goal.invariant-loop-k
invariant-loop-k g l =
    StatePass by_run sides_past (sides_of l.s) l.positions l.initial.classes l.classes l.sides l.k
    × StatePassSteps owed_in_run (classes_at l.initial.classes l.positions) l.sides l.k l.initial.steps l.steps

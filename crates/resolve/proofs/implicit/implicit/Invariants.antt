use Rattle.std.proofs.Common.{◌≡◌, ◌+◌}
use Rattle.units.specs.Classes.{classes_at}
use Rattle.resolve.proofs.Raising.{RaisePass}
use Rattle.resolve.proofs.implicit.implicit.Given as goal

abbrev pub invariant-loop-k : goal.invariant-loop-k
invariant-loop-k g l =
    RaisePass l.s.level (classes_at l.classes l.positions) l.positions l.initial.levels l.levels l.k ×
    (l.steps ≡ l.initial.steps + l.k)

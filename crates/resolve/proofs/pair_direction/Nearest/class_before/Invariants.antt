use Rattle.std.proofs.Common.{◌≡◌, ◌≤◌, ◌+◌, length}
use Rattle.units.specs.Brackets.{context_before}
use Rattle.units.specs.Classes.{classes_at}
use Rattle.resolve.proofs.pair_direction.Nearest.class_before.Given as goal

abbrev pub invariant-loop-k : goal.invariant-loop-k
invariant-loop-k g l =
    (context_before (classes_at l.classes l.s.positions) l.s.sos l.k ≡
    context_before (classes_at l.classes l.s.positions) l.s.sos l.index)
    × (l.self.index ≤ l.k)
    × (l.fn.steps ≤ l.steps)
    × (l.steps + l.k ≡ l.fn.steps + l.index)
    × (length l.positions ≡ length l.s.positions)

use Rattle.std.proofs.Common.{◌≡◌, ◌≤◌, ◌+◌, ◌-◌, length}
use Rattle.units.specs.Classes.{classes_at}
use Rattle.resolve.specs.Indices.{index_of}
use Rattle.resolve.specs.Inside.{looks_from}
use Rattle.resolve.proofs.Insides.{IsLooking}
use Rattle.resolve.proofs.pair_direction.Cursor.finds.Given as goal

abbrev pub invariant-loop-self : goal.invariant-loop-self
invariant-loop-self g l =
    IsLooking (classes_at l.classes l.s.positions) l.pair.index (index_of l.s.positions l.pair.closer)
    (length l.s.positions - 1) l.fn.self l.self
    × (looks_from l.fn.self l.pair.index ≤ l.self.next)
    × (l.steps + looks_from l.fn.self l.pair.index ≡ l.fn.steps + l.self.next)
    × (length l.positions ≡ length l.s.positions)

abbrev pub decreases-loop-self : goal.decreases-loop-self
decreases-loop-self g l = index_of l.s.positions l.pair.closer - l.self.next

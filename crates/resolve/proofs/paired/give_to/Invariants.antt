use Rattle.std.proofs.Common.{◌≤◌, ◌+◌, ◌-◌, length}
use Rattle.units.specs.Classes.{classes_at}
use Rattle.resolve.specs.Indices.{index_of}
use Rattle.resolve.specs.Rewritten.{KeepsOthers}
use Rattle.resolve.proofs.Giving.{IsGiving}
use Rattle.resolve.proofs.Indices.{index_or_end, IsNext}
use Rattle.resolve.proofs.paired.give_to.Given as goal

abbrev pub invariant-loop-next : goal.invariant-loop-next
invariant-loop-next g l = record {
  giving : IsGiving (classes_at l.before l.s.positions) (index_of l.s.positions l.bracket) l.direction
      (classes_at l.fn.classes l.s.positions) (classes_at l.classes l.s.positions) (index_or_end l.s.positions l.next);
  others : KeepsOthers l.s.positions l.fn.classes l.classes;
  next : IsNext l.s.positions l.next;
  at_least : l.fn.steps ≤ l.steps;
  at_most : l.steps + (index_of l.s.positions l.bracket + 1) ≤ l.fn.steps + index_or_end l.s.positions l.next;
}

abbrev pub decreases-loop-next : goal.decreases-loop-next
decreases-loop-next g l = length l.s.positions - index_or_end l.s.positions l.next

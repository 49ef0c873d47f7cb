use Rattle.std.proofs.Common.{◌≡◌, length}
use Rattle.units.specs.Classes.{classes_of}
use Rattle.room.specs.WholeLevels.{trails}
use Rattle.room.proofs.WholeLevels.{AreMarkedFrom}
use Rattle.room.proofs.room.Room.mark_trailing.Given as goal

-- the characters from k on are marked, and `trailing` says whether only white space follows from k on
abbrev pub invariant-loop-k : goal.invariant-loop-k
invariant-loop-k l = record {
  len : length l.out ≡ length l.fn.out;
  trailing : l.trailing ≡ trails (classes_of l.self.text.units) l.k;
  marked : AreMarkedFrom (classes_of l.self.text.units) l.k l.out;
}

use Rattle.std.proofs.Common.{◌≡◌, ◌-◌, ◌<◌, length}
use Rattle.std.specs.Prelude.{slice_index}
use Rattle.units.specs.Classes.{classes_of}
use Rattle.room.proofs.WholeLevels.{AreMarkedFrom, AreWholeUpTo}
use Rattle.room.proofs.room.Room.fill_whole_levels.Given as goal

-- the levels before k are written, and the characters from k on are marked
abbrev pub invariant-loop-k : goal.invariant-loop-k
invariant-loop-k l = record {
  len : length l.out ≡ length l.fn.out;
  levels : AreWholeUpTo l.self l.k l.out;
  marked : AreMarkedFrom (classes_of l.self.text.units) l.k l.out;
  last : 0 < l.k → l.before ≡ slice_index l.out (l.k - 1);
}

use Rattle.std.proofs.Common.{◌≡◌}
use Rattle.room.specs.Rooms.{offset_in}
use Rattle.room.proofs.LevelPass.{AreWritten}
use Rattle.for_c.specs.LevelBytes.{level_byte}
use Rattle.for_c.proofs.in_units.fill_by_character.Given as goal

-- the levels of the units before this character are written
abbrev pub invariant-loop-k : goal.invariant-loop-k
invariant-loop-k l = (l.from ≡ offset_in l.room l.k) × AreWritten level_byte 0 l.room l.out l.from

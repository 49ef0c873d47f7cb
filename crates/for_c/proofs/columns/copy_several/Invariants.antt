use Rattle.std.proofs.Common.{◌≡◌, map, take, drop}
use Rattle.for_c.specs.LevelBytes.{level_byte}
use Rattle.for_c.proofs.columns.copy_several.Given as goal

abbrev pub invariant-loop-i : goal.invariant-loop-i
invariant-loop-i l = (take l.i l.out ≡ map level_byte (take l.i l.levels)) × (drop l.i l.out ≡ drop l.i l.fn.out)

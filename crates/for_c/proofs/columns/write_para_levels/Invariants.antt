use Rattle.std.proofs.Common.{◌≡◌, map, take, drop}
use Rattle.units.specs.Isolates.{level_of_para}
use Rattle.for_c.proofs.columns.write_para_levels.Given as goal

abbrev pub invariant-loop-i : goal.invariant-loop-i
invariant-loop-i l = (take l.i l.out ≡ map level_of_para (take l.i l.levels)) × (drop l.i l.out ≡ drop l.i l.fn.out)

use Rattle.std.proofs.Common.{◌≡◌, map, take}
use Rattle.sources.specs.NumberedUnits.{numbered_unit}
use Rattle.sources.proofs.numbered_units.fill_units.Given as goal

-- the units before i are there
abbrev pub invariant-loop-i : goal.invariant-loop-i
invariant-loop-i l = take l.i l.units ≡ map numbered_unit (take l.i l.numbered)

use Rattle.std.proofs.Common.{◌≡◌, map, take}
use Rattle.ucdfiles.specs.UnitStages.{unit_by_stages}
use Rattle.ucdfiles.proofs.tables.BorrowedUnits.write_rest.Given as goal

-- the units of the characters before k are there
abbrev pub invariant-loop-k : goal.invariant-loop-k
invariant-loop-k l = take l.k l.units ≡ map (unit_by_stages l.self) (take l.k l.text)

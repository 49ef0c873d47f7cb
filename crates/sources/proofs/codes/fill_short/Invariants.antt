use Rattle.std.proofs.Common.{◌≡◌, map, take}
use Rattle.ucdfiles.specs.UnitStages.{unit_by_stages}
use Rattle.sources.proofs.codes.fill_short.Given as goal

-- the units of the code points before k are there
abbrev pub invariant-loop-k : goal.invariant-loop-k
invariant-loop-k l = take l.k l.units ≡ map (unit_by_stages l.borrowed) (take l.k l.codes)

use Rattle.std.proofs.Common.{◌≡◌, map, take}
use Rattle.sources.specs.ClassNumbers.{unit_numbered}
use Rattle.sources.proofs.class_numbers.fill_classes.Given as goal

-- the units of the numbers before i are there
abbrev pub invariant-loop-i : goal.invariant-loop-i
invariant-loop-i l = take l.i l.units ≡ map unit_numbered (take l.i l.numbers)

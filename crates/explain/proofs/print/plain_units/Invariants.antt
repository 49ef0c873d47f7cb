use Rattle.std.proofs.Common.{◌≡◌, map, take}
use Rattle.explain.specs.Explained.{plain_unit}
use Rattle.explain.proofs.print.plain_units.Given as goal

abbrev pub invariant-loop-class : goal.invariant-loop-class
invariant-loop-class l = l.units.items ≡ map plain_unit (take l.class-index l.classes)

-- Sets of classes, as numbers with a bit for each class.
use Rattle.std.specs.Prelude.{Bool, ◌==◌, ◌/◌, ◌^◌}
use Rattle.std.specs.Int.RustNames.{bit_and}
use Rattle.units.specs.declared.class.Class.{Class}
use Rattle.resolve.specs.ClassSets.{class_number}
use Rattle.compress.specs.declared.passed_set.PassedSet.{PassedSet}

-- the bit of a class is set
abbrev pub has : PassedSet → Class → Bool
has set c = bit_and (set.bits / 2 ^ class_number c) 1 == 1

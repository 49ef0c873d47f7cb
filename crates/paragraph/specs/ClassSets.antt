-- Sets of classes, as numbers with a bit for each class.
use Rattle.std.specs.Prelude.{ℕ, Bool, ◌≡◌, ◌==◌, ◌^◌, if◌then◌else◌, List}
use Rattle.std.specs.List.{list_any}
use Rattle.std.specs.Int.RustNames.{bit_and}
use Rattle.units.specs.declared.class.Class.{Class}
use Rattle.resolve.specs.ClassSets.{class_number}
use Rattle.paragraph.specs.declared.class_set.ClassSet.{ClassSet}

-- the two are one class
abbrev pub is_class : Class → Class → Bool
is_class c d = class_number c == class_number d

-- the bit of a class
abbrev pub bit_of : Class → ℕ
bit_of c = 2 ^ class_number c

-- the set contains these classes and no others
pub record IsSetOf (set : ClassSet) (cs : List Class) : Type 0 where
  pub bits : (c : Class) → bit_and set.bits (bit_of c) ≡ (if list_any (is_class c) cs then bit_of c else 0)

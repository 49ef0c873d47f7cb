-- The level and the class of one position, encoded as a number and a class.
use Rattle.std.specs.Prelude.{Option, Some, None, ℕ, ◌≡◌, ◌==◌, ◌≤◌, if◌then◌else◌}
use Rattle.std.specs.Option.{option_map_or}
use Rattle.units.specs.declared.class.Class.{Class}
use Rattle.units.specs.declared.class.Class.TheVariants.{BN}

-- the number that encodes that there is no level
abbrev pub no_level : ℕ
no_level = 127

-- the level and the class that a number and a class encode, or none
abbrev pub leveled_class_of : ℕ → Class → Option (ℕ × Class)
leveled_class_of number class = if number == no_level then None else Some (number, class)

-- the number and the class that encode a level and a class, or none
abbrev pub number_of_leveled : Option (ℕ × Class) → ℕ
number_of_leveled leveled = option_map_or (λ x. x.0) leveled no_level

abbrev pub class_of_leveled : Option (ℕ × Class) → Class
class_of_leveled leveled = option_map_or (λ x. x.1) leveled BN

-- a number and a class that encode something: a level, or none with BN
pub record IsLeveledClass (number : ℕ) (class : Class) : Type 0 where
  pub within : number ≤ no_level
  pub none : number ≡ no_level → class ≡ BN

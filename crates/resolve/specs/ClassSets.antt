-- Sets of classes, as numbers with a bit for each class.
use Rattle.std.specs.Prelude.{ℕ, Bool, true, not, ◌==◌, ◌/◌, ◌^◌}
use Rattle.std.specs.Int.RustNames.{bit_and}
use Rattle.units.specs.Classes.{is_neutral}
use Rattle.units.specs.declared.class.Class.{Class}
use Rattle.units.specs.declared.class.Class.TheVariants.{L, R, AL, EN, ES, ET, AN, CS, NSM, BN, B, S, WS, ON, LRE, LRO, RLE, RLO, PDF, LRI, RLI, FSI, PDI}
use Rattle.resolve.specs.Wanted.{may_weaken}
use Rattle.resolve.specs.declared.class_set.ClassSet.{ClassSet}

-- the number of a class among the 23
abbrev pub class_number : Class → ℕ
class_number L = 0
class_number R = 1
class_number AL = 2
class_number EN = 3
class_number ES = 4
class_number ET = 5
class_number AN = 6
class_number CS = 7
class_number NSM = 8
class_number BN = 9
class_number B = 10
class_number S = 11
class_number WS = 12
class_number ON = 13
class_number LRE = 14
class_number LRO = 15
class_number RLE = 16
class_number RLO = 17
class_number PDF = 18
class_number LRI = 19
class_number RLI = 20
class_number FSI = 21
class_number PDI = 22

-- the bit of a class is set
abbrev pub holds : ClassSet → Class → Bool
holds set c = bit_and (set.bits / 2 ^ class_number c) 1 == 1

-- a neutral, or L or R itself if it is the direction
abbrev pub is_neutral_or : Class → Class → Bool
is_neutral_or L L = true
is_neutral_or R R = true
is_neutral_or direction c = is_neutral c

-- the classes that W1 to W7 change in the same way in every context: AL becomes R, the others are unchanged
abbrev pub is_context_free : Class → Bool
is_context_free AL = true
is_context_free c = not (may_weaken c)

-- the classes that W1 to W7 leave unchanged, and after which the last strong class is still this one: this class if it
-- is L or R, a neutral, or AN
abbrev pub is_passed : Class → Class → Bool
is_passed strong AN = true
is_passed strong c = is_neutral_or strong c

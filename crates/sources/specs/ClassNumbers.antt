-- Classes by their numbers.
use Rattle.std.specs.Prelude.{ℕ, ◌≢◌, None, Option, List, [], ◌∷◌, map}
use Rattle.std.specs.List.{slice_get}
use Rattle.std.specs.Option.{unwrap_or}
use Rattle.units.specs.declared.bracket.Unit.{Unit as BidiUnit}
use Rattle.units.specs.declared.bracket.Bracket.TheVariants.{No}
use Rattle.units.specs.declared.class.Class.{Class}
use Rattle.units.specs.declared.class.Class.TheVariants.{L, R, AL, EN, ES, ET, AN, CS, NSM, BN, B, S, WS, ON, LRE, LRO, RLE, RLO, PDF, LRI, RLI, FSI, PDI}

-- the classes in the order of their numbers, from 0
abbrev pub numbered_classes : List Class
numbered_classes =
    L ∷ R ∷ AL ∷ EN ∷ ES ∷ ET ∷ AN ∷ CS ∷ NSM ∷ BN ∷ B ∷ S ∷ WS ∷ ON
    ∷ LRE ∷ LRO ∷ RLE ∷ RLO ∷ PDF ∷ LRI ∷ RLI ∷ FSI ∷ PDI ∷ []

-- the class with this number, if there is one
abbrev pub class_numbered : ℕ → Option Class
class_numbered number = slice_get numbered_classes number

-- a class has this number
abbrev pub IsClassNumber : ℕ → Type 0
IsClassNumber number = class_numbered number ≢ None

-- the unit of the class with this number, with no bracket
abbrev pub unit_numbered : ℕ → BidiUnit
unit_numbered number = record { class = unwrap_or (class_numbered number) L; bracket = No }

-- the units of the classes with these numbers
abbrev pub units_numbered : List ℕ → List BidiUnit
units_numbered numbers = map unit_numbered numbers

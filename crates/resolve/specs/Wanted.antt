-- The weak classes and brackets of a paragraph, by the own classes and brackets of its units.
use Rattle.std.specs.Prelude.{ℕ, Bool, true, false, ◌≡◌, List, Contains}
use Rattle.std.specs.List.{list_any}
use Rattle.units.specs.Brackets.{is_open}
use Rattle.units.specs.Classes.{class_at, classes_of}
use Rattle.units.specs.declared.bracket.Unit.{Unit as BidiUnit}
use Rattle.units.specs.declared.class.Class.{Class}
use Rattle.units.specs.declared.class.Class.TheVariants.{L, R, AL, EN, ES, ET, CS, NSM, BN}
use Rattle.resolve.specs.declared.sequence.Wanted.{Wanted}

-- W1 to W7: a class that one of these rules can change
abbrev pub may_weaken : Class → Bool
may_weaken AL = true
may_weaken EN = true
may_weaken ES = true
may_weaken ET = true
may_weaken CS = true
may_weaken NSM = true
may_weaken _ = false

-- if a flag is false, the units have none of this kind; if it is true, they may have some or none
pub record IsWantedIn (wanted : Wanted) (us : List BidiUnit) : Type 0 where
  pub weak : wanted.weak ≡ false → list_any may_weaken (classes_of us) ≡ false
  pub openings : wanted.openings ≡ false → list_any (λ unit. is_open unit.bracket) us ≡ false

-- X1 to X9: a class that replaces own classes: L or R by an override, BN at a removed position
abbrev pub is_imposed : Class → Bool
is_imposed L = true
is_imposed R = true
is_imposed BN = true
is_imposed _ = false

-- at these positions, any other class is the unit's own
abbrev pub AreOwn : List ℕ → List BidiUnit → List Class → Type 0
AreOwn ps us before =
    (p : ℕ) → Contains ps p → is_imposed (class_at before p) ≡ false → class_at before p ≡ class_at (classes_of us) p

-- What X2 to X9 do to the stack, for all initiators that it can represent.
use Rattle.std.specs.Prelude.{◌≡◌, ℕ, Bool, true, false, List, ◌∷◌, Option, Some}
use Rattle.units.specs.Classes.{class_at, is_isolate_initiator, is_removed, is_separator}
use Rattle.units.specs.Explicit.{wants_odd}
use Rattle.units.specs.Isolates.{begins_right_to_left, first_strong}
use Rattle.units.specs.declared.class.Class.{Class}
use Rattle.units.specs.declared.class.Class.TheVariants.{FSI}
use Rattle.explicit.specs.OpenInitiators.{still_open, opened}
use Rattle.explicit.specs.StatusStacks.{Represents, is_taken, entry_at, state_within, leveled_in}
use Rattle.explicit.specs.declared.status.Status.{Status}
use Rattle.explicit.specs.declared.status.StatusStack.{StatusStack}

-- X6a, X7: the new stack represents the initiators that `remaining` leaves open
abbrev pub Closes : (List Class → List ℕ → List ℕ) → StatusStack → StatusStack → Type 0
Closes remaining old new =
    (depth : ℕ) (cs : List Class) (para_level : ℕ) (qs : List ℕ)
    → Represents depth cs para_level qs old → Represents depth cs para_level (remaining cs qs) new

-- X2 to X5c: an initiator of this class, which asks for an odd level or not, is opened up to this depth
abbrev pub OpensAsking : ℕ → Class → Bool → StatusStack → StatusStack → Type 0
OpensAsking depth class odd old new =
    (cs : List Class) (para_level : ℕ) (qs : List ℕ) (p : ℕ) → class ≡ class_at cs p → odd ≡ wants_odd cs p class
    → Represents depth cs para_level qs old → Represents depth cs para_level (p ∷ qs) new

-- P2, P3, X5c: whether the content of an FSI at p begins right to left
abbrev pub IsSideOf : Class → List Class → ℕ → Bool → Type 0
IsSideOf class cs p right_to_left = class ≡ FSI → right_to_left ≡ begins_right_to_left cs (first_strong cs (Some p))

-- X2 to X5c: an initiator of this class is opened up to this depth
abbrev pub Opens : ℕ → Class → Bool → StatusStack → StatusStack → Type 0
Opens depth class right_to_left old new =
    (cs : List Class) (para_level : ℕ) (qs : List ℕ) (p : ℕ) → class ≡ class_at cs p → IsSideOf class cs p right_to_left
    → Represents depth cs para_level qs old → Represents depth cs para_level (p ∷ qs) new

-- X2 to X5c: a valid initiator is opened, with this entry
abbrev pub TakesInitiator : Status → StatusStack → StatusStack → Type 0
TakesInitiator entry old new =
    (depth : ℕ) (cs : List Class) (para_level : ℕ) (qs : List ℕ) (p : ℕ)
    → is_taken depth cs para_level p qs ≡ true → entry ≡ entry_at depth cs para_level p qs
    → Represents depth cs para_level qs old → Represents depth cs para_level (p ∷ qs) new

-- X2 to X5c: an overflow initiator is counted, of an isolate or of an embedding
abbrev pub CountsOverflow : Bool → StatusStack → StatusStack → Type 0
CountsOverflow is_isolate old new =
    (depth : ℕ) (cs : List Class) (para_level : ℕ) (qs : List ℕ) (p : ℕ)
    → is_taken depth cs para_level p qs ≡ false → is_isolate ≡ is_isolate_initiator (class_at cs p)
    → Represents depth cs para_level qs old → Represents depth cs para_level (p ∷ qs) new

-- X1: this is the status inside the innermost valid initiator
abbrev pub IsInnermost : StatusStack → Status → Type 0
IsInnermost stack status =
    (depth : ℕ) (cs : List Class) (para_level : ℕ) (qs : List ℕ) → Represents depth cs para_level qs stack
    → (status.level ≡ (state_within depth cs para_level qs).level)
    × (status.override_class ≡ (state_within depth cs para_level qs).override)

-- X5a to X6a: the level and the current class of a position of this class, which is neither removed nor a separator
abbrev pub GivesLeveledInside : StatusStack → Class → Option (ℕ × Class) → Type 0
GivesLeveledInside stack class leveled =
    (depth : ℕ) (cs : List Class) (para_level : ℕ) (qs : List ℕ)
    → is_removed class ≡ false → is_separator class ≡ false → Represents depth cs para_level qs stack
    → leveled ≡ leveled_in (state_within depth cs para_level qs) para_level class

-- X2 to X9: if a position p of this class leaves these initiators open, then this is its level and its current class,
-- or none if it is removed, and the new stack represents what is open after p
pub record IsPassed (depth : ℕ) (cs : List Class) (para_level : ℕ) (remaining : List ℕ) (p : ℕ) (class : Class)
    (leveled : Option (ℕ × Class)) (new : StatusStack) : Type 0 where
  pub retained : Represents depth cs para_level (opened cs p remaining) new
  pub found : leveled ≡ leveled_in (state_within depth cs para_level remaining) para_level class

-- X2 to X9: the initiators that a position of this class closes are closed, and the one that it opens, if it opens
-- one, is opened up to this depth
abbrev pub Passes : ℕ → ℕ → Class → Bool → Option (ℕ × Class) → StatusStack → StatusStack → Type 0
Passes depth para_level class right_to_left leveled old new =
    (cs : List Class) (qs : List ℕ) (p : ℕ) → class ≡ class_at cs p → IsSideOf class cs p right_to_left
    → Represents depth cs para_level qs old
    → IsPassed depth cs para_level (still_open cs class qs) p class leveled new

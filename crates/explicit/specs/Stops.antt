-- BD9, P2: where the pass that finds isolates stops, and what it skips.
use Rattle.std.specs.Prelude.{◌≡◌, ℕ, ◌<◌, ◌≤◌, Bool, true, false, ◌||◌, ◌&&◌, not, List, length, Option, None}
use Rattle.units.specs.Classes.{class_at, is_isolate_formatting, is_strong}
use Rattle.units.specs.declared.class.Class.{Class}
use Rattle.explicit.specs.Stretches.{with_stretch}

-- no isolate begins or ends at a position from this one on, before the end
abbrev pub HasNoFormatting : List Class → ℕ → ℕ → Type 0
HasNoFormatting cs from end = (p : ℕ) → from ≤ p → p < end → is_isolate_formatting (class_at cs p) ≡ false

-- no isolate begins or ends at a position of this class, and the class is not strong if a strong class is looked for
abbrev pub is_passed : Bool → Class → Bool
is_passed wanted c = not (is_isolate_formatting c || (wanted && is_strong c))

-- the pass skips each position from this one on, before the end
abbrev pub ArePassed : Bool → List Class → ℕ → ℕ → Type 0
ArePassed wanted cs from end = (p : ℕ) → from ≤ p → p < end → is_passed wanted (class_at cs p) ≡ true

-- p is the first position from this one on that the pass doesn't skip, or the end if it skips all
pub record IsNextStop (wanted : Bool) (cs : List Class) (from p : ℕ) : Type 0 where
  pub later : from ≤ p
  pub within : p ≤ length cs
  pub stops : p < length cs → is_passed wanted (class_at cs p) ≡ false
  pub first : ArePassed wanted cs from p

-- the partners, with those of the positions from this one on, before the end, removed
abbrev pub without_partners : ℕ → ℕ → List (Option ℕ) → List (Option ℕ)
without_partners from end partners = with_stretch from end (λ p. None) partners

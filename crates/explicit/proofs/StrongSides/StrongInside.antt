-- The strong classes directly inside an isolate, or outside of all.
use Rattle.std.proofs.Common.{◌≡◌, ℕ, ◌&&◌, Bool, false, List, Option}
use Rattle.std.proofs.lemmas.Bool.{and_parts, false_from_ne_true}
use Rattle.units.specs.Positions.{same_position}
use Rattle.units.specs.Classes.{class_at, is_strong}
use Rattle.units.specs.Isolates.{isolate_around}
use Rattle.units.specs.declared.class.Class.{Class}
use Rattle.units.proofs.Positions.{same_position_true}

-- the test of `first_strong`
abbrev pub is_strong_in : List Class → Option ℕ → ℕ → Bool
is_strong_in cs isolate p = is_strong (class_at cs p) && same_position (isolate_around cs p) isolate

-- a position in another isolate fails it
pub elsewhere : (cs : List Class) (isolate : Option ℕ) (q : ℕ) → (isolate_around cs q ≡ isolate → ⊥) →
    is_strong_in cs isolate q ≡ false
elsewhere cs isolate q ne = false_from_ne_true _ (λ t. absurd (ne (same_position_true _ _ (and_parts _ _ t).1)))

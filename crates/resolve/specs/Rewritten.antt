-- The classes of a paragraph after a pass over one of its sequences.
use Rattle.std.specs.Prelude.{ℕ, ◌≡◌, List, Contains}
use Rattle.units.specs.Classes.{class_at, classes_at}
use Rattle.units.specs.declared.class.Class.{Class}

-- the classes at all other positions are unchanged
abbrev pub KeepsOthers : List ℕ → List Class → List Class → Type 0
KeepsOthers ps old new = (p : ℕ) → (Contains ps p → ⊥) → class_at new p ≡ class_at old p

-- the classes at the positions are changed by f, and the others are unchanged
pub record Rewrites (f : List Class → List Class) (ps : List ℕ) (old new : List Class) : Type 0 where
  pub values : classes_at new ps ≡ f (classes_at old ps)
  pub others : KeepsOthers ps old new

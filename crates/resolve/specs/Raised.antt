-- The levels of a paragraph after I1 and I2.
use Rattle.std.specs.Prelude.{Option, Some, None, ℕ, ◌≡◌, List, Contains, slice_index_or}
use Rattle.units.specs.Classes.{class_at}
use Rattle.units.specs.Implicit.{implicit_level}
use Rattle.units.specs.declared.class.Class.{Class}

-- the resolved level at a position, if it has one
abbrev pub resolved_at : List (Option ℕ) → ℕ → Option ℕ
resolved_at levels p = slice_index_or levels p None

-- the positions get the levels of their classes, and the others are unchanged
pub record Raises (level : ℕ) (cs : List Class) (ps : List ℕ) (old new : List (Option ℕ)) : Type 0 where
  pub values : (p : ℕ) → Contains ps p → resolved_at new p ≡ Some (implicit_level level (class_at cs p))
  pub others : (p : ℕ) → (Contains ps p → ⊥) → resolved_at new p ≡ resolved_at old p

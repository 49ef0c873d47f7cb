-- The resolved levels of a sequence in its paragraph (W1 to I2).
use Rattle.std.specs.Prelude.{Option, Some, ℕ, ◌<◌, ◌≡◌, List, length, Contains, slice_index}
use Rattle.units.specs.Classes.{classes_at}
use Rattle.units.specs.Layout.{after_rules, levels_of_sequence}
use Rattle.units.specs.Runs.{SequenceView}
use Rattle.units.specs.declared.bracket.Unit.{Unit as BidiUnit}
use Rattle.units.specs.declared.class.Class.{Class}
use Rattle.resolve.specs.Raised.{resolved_at}
use Rattle.resolve.specs.Rewritten.{KeepsOthers}

-- each position of the sequence has its resolved level, by the paragraph's units and its classes before W1, for this
-- number of brackets that can be open
abbrev pub HasLevels : ℕ → SequenceView → List BidiUnit → List Class → List (Option ℕ) → Type 0
HasLevels most_open s us before levels =
    (k : ℕ) → k < length s.positions
    → resolved_at levels (slice_index s.positions k)
    ≡ Some (slice_index (levels_of_sequence most_open s us (classes_at before s.positions)) k)

-- the levels at all other positions are unchanged
abbrev pub KeepsOtherLevels : List ℕ → List (Option ℕ) → List (Option ℕ) → Type 0
KeepsOtherLevels ps old new = (p : ℕ) → (Contains ps p → ⊥) → resolved_at new p ≡ resolved_at old p

-- W1 to I2: the sequence has its resolved levels, and its classes after N2, and the others are unchanged
pub record Resolves (most_open : ℕ) (s : SequenceView) (us : List BidiUnit) (before old new : List Class)
    (old_levels new_levels : List (Option ℕ)) : Type 0 where
  pub levels : HasLevels most_open s us before new_levels
  pub other_levels : KeepsOtherLevels s.positions old_levels new_levels
  pub classes : classes_at new s.positions ≡ after_rules most_open s us (classes_at before s.positions)
  pub other_classes : KeepsOthers s.positions old new

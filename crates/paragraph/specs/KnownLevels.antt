-- The levels of a paragraph that keeps its level, written from its start on.
use Rattle.std.specs.Prelude.{Option, ℕ, ◌≡◌, ◌+◌, List, [], ◌∷◌, map, slice_index_or, take}
use Rattle.units.specs.Layout.{no_unit}
use Rattle.units.specs.declared.bracket.Unit.{Unit as BidiUnit}
use Rattle.units.specs.declared.class.Class.{Class}
use Rattle.explicit.specs.Uniform.{level_unless_removed_at}

-- the classes of the four units from p on
abbrev pub classes_at_four : List BidiUnit → ℕ → List Class
classes_at_four us p =
    (slice_index_or us p no_unit).class ∷ (slice_index_or us (p + 1) no_unit).class ∷
    (slice_index_or us (p + 2) no_unit).class ∷ (slice_index_or us (p + 3) no_unit).class ∷ []

-- X9: the positions before p have this level, none if they are removed
abbrev pub HasLevelsBefore : ℕ → ℕ → List BidiUnit → List (Option ℕ) → Type 0
HasLevelsBefore p level us levels = take p levels ≡ map (λ unit. level_unless_removed_at level unit.class) (take p us)

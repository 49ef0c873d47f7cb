-- The positions of a line that remain, and their levels.
use Rattle.std.specs.Prelude.{Option, None, Some, ℕ, Bool, ◌-◌, ◌<◌, ◌≤◌, ◌≡◌, ◌⊎◌, List, [], ◌∷◌, filter, slice_index_or}
use Rattle.std.specs.Option.{is_some}
use Rattle.units.specs.Positions.{positions_from}

-- X9: the position was not removed
abbrev pub is_remaining : List (Option ℕ) → ℕ → Bool
is_remaining levels p = is_some (slice_index_or levels p None)

-- X9: the remaining positions from start up to end, rising
abbrev pub remaining : List (Option ℕ) → ℕ → ℕ → List ℕ
remaining levels start end = filter (is_remaining levels) (positions_from start (end - start))

-- BD2: the position has the level
abbrev pub HasLevel : List (Option ℕ) → ℕ → ℕ → Type 0
HasLevel levels p v = slice_index_or levels p None ≡ Some v

-- the list contains the position
abbrev pub IsAmong : List ℕ → ℕ → Type 0
IsAmong [] y = ⊥
IsAmong (x ∷ xs) y = (y ≡ x) ⊎ IsAmong xs y

-- L2: all remaining positions of the line have one level
pub record IsAtOneLevel (levels : List (Option ℕ)) (start end level : ℕ) : Type 0 where
  pub same : (p v : ℕ) → start ≤ p → p < end → HasLevel levels p v → v ≡ level

-- X1 to X9: the explicit levels of a paragraph, without its current classes.
use Rattle.std.specs.Prelude.{◌≡◌, ℕ, ◌<◌, List, length, Option, None, Some, slice_index_or}
use Rattle.units.specs.Explicit.{explicit_level_at}
use Rattle.units.specs.declared.class.Class.{Class}
use Rattle.explicit.specs.Stretches.{with_stretch}

-- the levels, with this one at the positions from this one on, before the end
abbrev pub with_level : ℕ → ℕ → ℕ → List (Option ℕ) → List (Option ℕ)
with_level level from end levels = with_stretch from end (λ p. Some level) levels

-- X1 to X9: these are the explicit levels, up to this depth, of a paragraph with these classes and this level
abbrev pub HoldsLevelsAlone : List (Option ℕ) → ℕ → List Class → ℕ → Type 0
HoldsLevelsAlone levels depth cs para_level =
    (p : ℕ) → p < length cs → slice_index_or levels p None ≡ explicit_level_at depth cs para_level p

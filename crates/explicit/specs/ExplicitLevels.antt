-- X1 to X9: the explicit levels and the current classes of a paragraph.
use Rattle.std.specs.Prelude.{◌≡◌, ℕ, ◌<◌, ◌≤◌, List, length, Option, None, IfSome, slice_index_or}
use Rattle.units.specs.Explicit.{explicit_at}
use Rattle.units.specs.declared.class.Class.{Class}

-- X1 to X9: these are the explicit levels, up to this depth, and the current classes of a paragraph with these classes
-- and this level
pub record HoldsLevels (explicit : List (Option (ℕ × Class))) (depth : ℕ) (cs : List Class)
    (para_level : ℕ) : Type 0 where
  pub enough : length cs ≤ length explicit
  pub at : (p : ℕ) → p < length cs → slice_index_or explicit p None ≡ explicit_at depth cs para_level p

-- X1 to X9: this is the level and the class of p in every paragraph that these are the levels of
abbrev pub IsExplicitAt : List (Option (ℕ × Class)) → ℕ → Option (ℕ × Class) → Type 0
IsExplicitAt explicit p leveled =
    (depth : ℕ) (cs : List Class) (para_level : ℕ)
    → HoldsLevels explicit depth cs para_level → p < length cs → leveled ≡ explicit_at depth cs para_level p

-- BD2: the level is not above the depth up to which the levels were found
abbrev pub IsWithinDepth : List (Option (ℕ × Class)) → ℕ → Option (ℕ × Class) → Type 0
IsWithinDepth explicit p leveled =
    (depth : ℕ) (cs : List Class) (para_level : ℕ)
    → HoldsLevels explicit depth cs para_level → para_level ≤ depth → p < length cs → IfSome leveled (λ x. x.0 ≤ depth)

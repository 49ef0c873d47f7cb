-- Which of two positions comes first after reversals (L2), from the least level between them.
use Rattle.std.specs.Prelude.{Option, None, Some, ℕ, ◌+◌, ◌-◌, ◌<◌, ◌≤◌, ◌≡◌, ◌≢◌, ◌%◌, List, [], ◌∷◌}
use Rattle.units.specs.Reordering.{least_level}
use Rattle.lines.specs.LinePositions.{IsAmong, HasLevel}

-- a level as a number, or 0 if there is none
abbrev pub number_or_zero : Option ℕ → ℕ
number_or_zero None = 0
number_or_zero (Some n) = n

-- L2: the least level between two positions, as a number
unfoldable pub least : List (Option ℕ) → ℕ → ℕ → ℕ
least levels i j = number_or_zero (least_level levels i j)

-- L2: the number of reversals, at levels from k on, that include all remaining positions from i to j
abbrev pub turns : List (Option ℕ) → ℕ → ℕ → ℕ → ℕ
turns levels k i j = (least levels i j + 1) - k

-- L2: a comes before b after the reversals at levels from k on; each one that includes both swaps them
pub record Before (levels : List (Option ℕ)) (k a b : ℕ) : Type 0 where
  pub apart : a ≢ b
  pub rising : a < b → turns levels k a b % 2 ≡ 0
  pub falling : b < a → turns levels k b a % 2 ≡ 1

-- each element has the relation to all elements after it
abbrev pub Ordered : (ℕ → ℕ → Type 0) → List ℕ → Type 0
Ordered r [] = Unit {0}
Ordered r (x ∷ xs) = ((y : ℕ) → IsAmong xs y → r x y) × Ordered r xs

-- a list of exactly the remaining positions from start up to end
pub record ListsRemaining (levels : List (Option ℕ)) (start end : ℕ) (xs : List ℕ) : Type 0 where
  pub sound : (p : ℕ) → IsAmong xs p → (start ≤ p) × (p < end) × ((v : ℕ) × HasLevel levels p v)
  pub complete : (p v : ℕ) → start ≤ p → p < end → HasLevel levels p v → IsAmong xs p

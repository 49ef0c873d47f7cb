-- Numbers of a kind.
use Rattle.std.specs.Prelude.{ℕ, ◌<◌, ◌≤◌, List, length, slice_index}

-- each of these numbers is of this kind
abbrev pub AllAre : (ℕ → Type 0) → List ℕ → Type 0
AllAre IsOfKind numbers = (k : ℕ) → k < length numbers → IsOfKind (slice_index numbers k)

-- the index is that of the first number that isn't of this kind
pub record IsFirstOther (IsOfKind : ℕ → Type 0) (numbers : List ℕ) (index : ℕ) : Type 0 where
  pub inside : index < length numbers
  pub outside : IsOfKind (slice_index numbers index) → ⊥
  pub earlier : (k : ℕ) → k < index → IsOfKind (slice_index numbers k)

-- the number is no surrogate
abbrev pub IsNoSurrogate : ℕ → Type 0
IsNoSurrogate code = 55296 ≤ code → 57344 ≤ code

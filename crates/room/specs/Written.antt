-- What is written to the front of a list.
use Rattle.std.specs.Prelude.{ℕ, ◌≡◌, ◌≤◌, ◌<◌, List, length, take, drop}

-- n items are counted, and written to the front if all fit there, else none; the written ones are right, and those
-- after them are unchanged
pub record Writes {A : Type 0} (n : ℕ) (AreRight : List A → Type 0) (counted : ℕ) (old new : List A) : Type 0 where
  pub count : counted ≡ n
  pub written : n ≤ length old → AreRight (take n new)
  pub following : drop n new ≡ drop n old
  pub unchanged : length old < n → new ≡ old

-- the items are counted, and written to the front whole or not at all
abbrev pub WritesWhole : {A : Type 0} → List A → ℕ → List A → List A → Type 0
WritesWhole items counted old new = Writes (length items) (λ written. written ≡ items) counted old new

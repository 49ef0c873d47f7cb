-- The pairs of a sequence, one after another in the order of their openers.
use Rattle.std.specs.Prelude.{ℕ, ◌<◌, ◌≤◌, ◌≡◌, Option, List, length, Some, None, slice_index}
use Rattle.resolve.specs.Pairs.{closer_in}
use Rattle.resolve.specs.declared.next_pair.Pair.{Pair}

-- no pair begins at an index from this one on, before the end
abbrev pub NoneBegins : List (Option ℕ) → List ℕ → ℕ → ℕ → Type 0
NoneBegins table ps from end = (j : ℕ) → from ≤ j → j < end → closer_in table (slice_index ps j) ≡ None

-- this is the first pair in the table that begins at an index of the sequence from this one on
pub record IsNextPair (table : List (Option ℕ)) (ps : List ℕ) (from : ℕ) (pair : Pair) : Type 0 where
  pub later : from ≤ pair.index
  pub within : pair.index < length ps
  pub opener : pair.opener ≡ slice_index ps pair.index
  pub closer : closer_in table pair.opener ≡ Some pair.closer
  pub first : NoneBegins table ps from pair.index

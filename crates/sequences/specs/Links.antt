-- Positions that are joined by links, each one to the next.
use Rattle.std.specs.Prelude.{Option, Bool, true, false, ℕ, ◌+◌, ◌<◌, ◌≤◌, ◌≡◌, List, length, Some, None, IfSome, slice_index, slice_index_or, slice_set, slice_get}
use Rattle.units.specs.Runs.{followed}

-- the link of a position, if it has one
abbrev pub link_at : List (Option ℕ) → ℕ → Option ℕ
link_at links p = slice_index_or links p None

-- whether a position is marked as one that another leads to
abbrev pub is_joined : List Bool → ℕ → Bool
is_joined joined p = slice_index_or joined p false

-- the marks, with one more at the position that a link leads to
abbrev pub marked : List Bool → Option ℕ → List Bool
marked joined None = joined
marked joined (Some q) = slice_set joined q true

-- this position, if there is one, and those that its links lead to
abbrev pub linked : List (Option ℕ) → Option ℕ → List ℕ
linked links at = followed (link_at links) (length links) at

-- each step leads to a later position below the end
abbrev pub IsForward : (ℕ → Option ℕ) → ℕ → Type 0
IsForward next end = (p : ℕ) → IfSome (next p) (λ q. (p < q) × (q < end))

-- each link leads to a later position
abbrev pub LinksForward : List (Option ℕ) → Type 0
LinksForward links = IsForward (link_at links) (length links)

-- each position from the first one on, before the last one, is linked to the one right after it
pub record IsLinkedStretch (links : List (Option ℕ)) (first last : ℕ) : Type 0 where
  pub later : first ≤ last
  pub within : last < length links
  pub each : (p : ℕ) → first ≤ p → p < last → link_at links p ≡ Some (p + 1)

-- positions of a paragraph of this extent, in rising order
pub record ArePositions (ps : List ℕ) (extent : ℕ) : Type 0 where
  pub within : (k : ℕ) → k < length ps → slice_index ps k < extent
  pub rising : (j k : ℕ) → j < k → k < length ps → slice_index ps j < slice_index ps k

-- each position of the list is linked to the next one in it, and the last one to none
abbrev pub IsChain : List ℕ → List (Option ℕ) → Type 0
IsChain ps links = (k : ℕ) → k < length ps → link_at links (slice_index ps k) ≡ slice_get ps (k + 1)

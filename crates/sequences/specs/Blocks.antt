-- Successive positions that a pass handles eight at a time, and the items that it writes for them.
use Rattle.std.specs.Prelude.{Option, Some, ℕ, ◌+◌, ◌<◌, ◌≤◌, ◌≡◌, Bool, true, List, slice_index_or}
use Rattle.units.specs.Runs.{LeveledView, level_of, at_one_level}
use Rattle.sequences.specs.Links.{is_joined, link_at}

-- each position from this one on, before the end, remains at this level
abbrev pub AreAtLevel : LeveledView → ℕ → ℕ → ℕ → Type 0
AreAtLevel t level from end = (p : ℕ) → from ≤ p → p < end → at_one_level (level_of t p) (Some level) ≡ true

-- each position from this one on, before the end, is linked to the one right after it
abbrev pub LeadOn : List (Option ℕ) → ℕ → ℕ → Type 0
LeadOn links from end = (p : ℕ) → from ≤ p → p < end → link_at links p ≡ Some (p + 1)

-- each position from this one on, before the end, is marked
abbrev pub AreJoined : List Bool → ℕ → ℕ → Type 0
AreJoined joined from end = (p : ℕ) → from ≤ p → p < end → is_joined joined p ≡ true

-- the items from this one on, before the end, have these values, and the old list has those from the end on
pub record IsWritten {X : Type 0} (default : X) (value : ℕ → X) (from end : ℕ) (old new : List X) : Type 0 where
  pub written : (p : ℕ) → from ≤ p → p < end → slice_index_or new p default ≡ value p
  pub unchanged : (p : ℕ) → end ≤ p → slice_index_or new p default ≡ slice_index_or old p default

-- A pass from the last position back that links each position to its successor.
use Rattle.std.specs.Prelude.{Option, ℕ, ◌-◌, ◌<◌, ◌≤◌, ◌≡◌, Bool, List, Some, length}
use Rattle.std.specs.List.{list_any}
use Rattle.units.specs.Classes.{class_at}
use Rattle.units.specs.Positions.{first_from, positions_from, same_position}
use Rattle.units.specs.Runs.{LeveledView, size_of, remains, successor, eos_at, last_in, sequence_from}
use Rattle.units.specs.declared.class.Class.{Class}
use Rattle.sequences.specs.Links.{is_joined, link_at}

-- one of the `count` positions from start on leads to q
abbrev pub is_led_to : (ℕ → Option ℕ) → ℕ → ℕ → ℕ → Bool
is_led_to next start count q = list_any (λ p. same_position (next p) (Some q)) (positions_from start count)

-- each position from k on is marked exactly if a position from k on leads to it
abbrev pub AreMarked : (ℕ → Option ℕ) → ℕ → ℕ → List Bool → Type 0
AreMarked next end k joined = (q : ℕ) → k ≤ q → q < end → is_joined joined q ≡ is_led_to next k (end - k) q

-- the pass has handled the positions from k on
pub record BackwardPass (t : LeveledView) (k : ℕ) (next : Option ℕ) (links : List (Option ℕ)) (ends : List Class)
    (joined : List Bool) : Type 0 where
  pub within : k ≤ size_of t
  pub links_fit : size_of t ≤ length links
  pub ends_fit : size_of t ≤ length ends
  pub joined_fit : size_of t ≤ length joined
  pub next_is : next ≡ first_from (remains t) k (size_of t - k)
  pub links_are : (p : ℕ) → k ≤ p → p < size_of t → link_at links p ≡ successor t p
  pub ends_are : (p : ℕ) → k ≤ p → p < size_of t → class_at ends p ≡ eos_at t (last_in (sequence_from t p) p)
  pub marks_are : AreMarked (successor t) (size_of t) k joined

-- X9: stretches of a line with no removed position.
use Rattle.std.specs.Prelude.{Option, ℕ, ◌<◌, ◌≤◌, ◌≡◌, List, true}
use Rattle.lines.specs.LinePositions.{is_remaining}

-- each position of the stretch has a level
pub record AllRemain (levels : List (Option ℕ)) (start end : ℕ) : Type 0 where
  pub here : (p : ℕ) → start ≤ p → p < end → is_remaining levels p ≡ true

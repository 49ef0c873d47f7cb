-- The sequences contain each remaining position exactly once.
use Rattle.std.specs.Prelude.{ℕ, ◌<◌, ◌≡◌, ◌==◌, List, count_by, if◌then◌else◌}
use Rattle.std.specs.List.{flat_map}
use Rattle.units.specs.Runs.{SequenceView, LeveledView, size_of, remains}

-- how often a position is in a list
abbrev pub times : List ℕ → ℕ → ℕ
times ps p = count_by (λ q. q == p) ps

-- all sequences together contain each remaining position once, and no other position
abbrev pub HoldsOnce : LeveledView → List SequenceView → Type 0
HoldsOnce t all = (p : ℕ) → p < size_of t → times (flat_map (λ s. s.positions) all) p ≡ (if remains t p then 1 else 0)

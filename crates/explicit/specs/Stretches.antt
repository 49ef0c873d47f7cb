-- Stretches: successive positions that a pass handles at once, and the values that it writes to them.
use Rattle.std.specs.Prelude.{◌≡◌, ℕ, ◌<◌, ◌≤◌, Bool, true, false, ◌&&◌, if◌then◌else◌, nat_le, nat_lt, List, length, map, Option, None, Some, unwrap_or, slice_index_or}
use Rattle.units.specs.Classes.{class_at}
use Rattle.units.specs.Positions.{positions_of}
use Rattle.units.specs.declared.class.Class.{Class}
use Rattle.explicit.specs.declared.status.Status.{Status}

-- each position from this one on, before the end, passes the test; the end is the limit, or the class there fails
pub record IsStretchWithin (test : Class → Bool) (cs : List Class) (from limit end : ℕ) : Type 0 where
  pub later : from ≤ end
  pub within : end ≤ limit
  pub passed : (p : ℕ) → from ≤ p → p < end → test (class_at cs p) ≡ true
  pub longest : end < limit → test (class_at cs end) ≡ false

-- the same, up to the end of the paragraph
abbrev pub IsStretch : (Class → Bool) → List Class → ℕ → ℕ → Type 0
IsStretch test cs from end = IsStretchWithin test cs from (length cs) end

-- X5a to X6a: the level and the current class of a position of this class inside this status, if the class is neither
-- removed nor a separator
abbrev pub leveled_by_status : Status → Class → ℕ × Class
leveled_by_status status class = (status.level, unwrap_or status.override_class class)

-- a list, with these values at the positions from this one on, before the end
abbrev pub with_stretch : {X : Type 0} → ℕ → ℕ → (ℕ → Option X) → List (Option X) → List (Option X)
with_stretch from end value xs =
    map (λ p. if nat_le from p && nat_lt p end then value p else slice_index_or xs p None) (positions_of xs)

-- the explicit levels and classes, with those of this status at the positions from this one on, before the end
abbrev pub with_leveled : Status → List Class → ℕ → ℕ → List (Option (ℕ × Class)) → List (Option (ℕ × Class))
with_leveled status cs from end explicit =
    with_stretch from end (λ p. Some (leveled_by_status status (class_at cs p))) explicit

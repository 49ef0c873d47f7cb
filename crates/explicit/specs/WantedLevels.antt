-- X2 to X5c: whether an initiator asks for an odd level, and which level it asks for, among all levels.
use Rattle.std.specs.Prelude.{◌≡◌, ℕ, ◌<◌, ◌≤◌, ◌%◌, Bool, List, Some, if◌then◌else◌}
use Rattle.units.specs.Classes.{class_at}
use Rattle.units.specs.Explicit.{wants_odd}
use Rattle.units.specs.Isolates.{begins_right_to_left, first_strong}
use Rattle.units.specs.declared.class.Class.{Class}
use Rattle.units.specs.declared.class.Class.TheVariants.{FSI}

-- wanted is the least odd level above this one, or the least even one
pub record IsLeastAbove (level : ℕ) (odd : Bool) (wanted : ℕ) : Type 0 where
  pub above : level < wanted
  pub parity : wanted % 2 ≡ (if odd then 1 else 0)
  pub least : (other : ℕ) → level < other → other % 2 ≡ (if odd then 1 else 0) → wanted ≤ other

-- X2 to X5c: `odd` says whether an initiator of this class asks for an odd level, at any position; `right_to_left` says
-- whether the content of an FSI begins right to left
abbrev pub IsOddWanted : Class → Bool → Bool → Type 0
IsOddWanted class right_to_left odd =
    (cs : List Class) (q : ℕ) → class ≡ class_at cs q
    → (class ≡ FSI → right_to_left ≡ begins_right_to_left cs (first_strong cs (Some q)))
    → odd ≡ wants_odd cs q class

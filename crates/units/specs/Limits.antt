-- What the standard fixes, and a caller may set lower: how deep levels go, and how many brackets are open at once.
use Rattle.std.specs.Prelude.{ℕ, ◌≤◌}

-- BD2: the greatest explicit level; BD16: how many brackets can be open
pub record LimitsOf : Type 0 where
  pub depth : ℕ
  pub brackets : ℕ

-- BD2, BD16: the limits of the standard, the greatest that are allowed
abbrev pub standard : LimitsOf
standard = record { depth = 125; brackets = 63 }

-- the depth is 1 or more, and neither limit is above that of the standard
pub record AreAllowed (limits : LimitsOf) : Type 0 where
  pub some : 1 ≤ limits.depth
  pub depth_within : limits.depth ≤ 125
  pub brackets_within : limits.brackets ≤ 63

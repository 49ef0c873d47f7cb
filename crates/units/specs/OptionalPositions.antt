-- Optional positions as 32-bit numbers; the greatest number means none.
use Rattle.std.specs.Prelude.{Option, ℕ, ◌==◌, if◌then◌else◌, Some, None, unwrap_or}

-- the number that means no position
abbrev pub no_position : ℕ
no_position = 4294967295

-- the position that a number means
abbrev pub position_of : ℕ → Option ℕ
position_of n = if n == no_position then None else Some n

-- the number of an optional position
abbrev pub number_of : Option ℕ → ℕ
number_of p = unwrap_or p no_position

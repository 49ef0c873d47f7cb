-- The greatest number of steps that the rules take for each position of a sequence.
use Rattle.std.specs.Prelude.{ℕ, ◌+◌}

-- W1 to W7: the pass, and the look ahead of W5
abbrev pub weak_steps : ℕ
weak_steps = 1 + 1

-- BD14 to BD16: a position is cleared and read, and a closing bracket searches at most 63 open ones
abbrev pub pairing_steps : ℕ
pairing_steps = 2 + 63

-- N0: the pass, the search inside for each of the two directions, the search back for the nearest strong class, and the
-- brackets and marks that take a direction
abbrev pub n0_steps : ℕ
n0_steps = 1 + 2 + 1 + 1

-- BD14 to BD16, N0
abbrev pub bracket_steps : ℕ
bracket_steps = pairing_steps + n0_steps

-- N1 to I2: the pass, and the look ahead of N1
abbrev pub implicit_steps : ℕ
implicit_steps = 1 + 1

-- W1 to I2
abbrev pub sequence_steps : ℕ
sequence_steps = weak_steps + bracket_steps + implicit_steps

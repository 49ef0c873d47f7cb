-- How many steps a paragraph takes at most, for each of its positions.
use Rattle.std.specs.Prelude.{ℕ, ◌+◌}
use Rattle.resolve.specs.StepBounds.{sequence_steps}

-- W1 to I2, sequence by sequence: each sequence has a position of its own
abbrev pub sequences_steps : ℕ
sequences_steps = sequence_steps + 1

-- W1 to I2, including a step to write the classes before W1
abbrev pub w_to_i_steps : ℕ
w_to_i_steps = sequences_steps + 1

-- X1 to X9 in two steps, and BD13 and X10 in three
abbrev pub x_rules_steps : ℕ
x_rules_steps = 2 + 3

-- BD9, P2 and P3 in one step, X1 to X10, W1 to I2
abbrev pub driver_steps : ℕ
driver_steps = 1 + x_rules_steps + w_to_i_steps

-- as above, including the step to find the contents
abbrev pub paragraph_steps : ℕ
paragraph_steps = driver_steps + 1

-- The number of steps of a layout, per position of its text.
use Rattle.std.specs.Prelude.{ℕ, ◌+◌, ◌/◌}
use Rattle.paragraph.specs.StepBounds.{driver_steps}

-- P1 to I2 at most, if each paragraph keeps its level: one step each to find paragraphs, to find their contents, to
-- divide lines, and to write levels
abbrev pub uniform_text_steps : ℕ
uniform_text_steps = 1 + 1 + 1 + 1

-- P1 to I2 at most: the rules take the other steps
abbrev pub text_steps : ℕ
text_steps = uniform_text_steps + driver_steps

-- L2 at most, to link the runs of a line: each position is visited, and a run is joined, starts a stretch and ends one
abbrev pub linking_steps : ℕ
linking_steps = 1 + 3

-- L2 at most: the runs are linked, and each is visited and written
abbrev pub order_steps : ℕ
order_steps = linking_steps + 2

-- L2 at most, if a line is known to have one level, besides one for each part of a long line: its remaining positions
-- are found, and written
abbrev pub uniform_order_steps : ℕ
uniform_order_steps = 1 + 1

-- the parts of a long line of this many positions, each of 128 positions but the last
abbrev pub parts_of : ℕ → ℕ
parts_of positions = (positions + 127) / 128

-- L2 at most, over all lines: each line adds a step, and has at least one position
abbrev pub line_steps : ℕ
line_steps = order_steps + 1

-- the same, if the levels are known; of a long line each part adds a step too
abbrev pub uniform_line_steps : ℕ
uniform_line_steps = uniform_order_steps + 1

-- L1 and L2 at most
abbrev pub arranging_steps : ℕ
arranging_steps = 1 + line_steps

-- P1 to L2 at most: the levels before L1 are stored too
abbrev pub layout_steps : ℕ
layout_steps = text_steps + 1 + arranging_steps

-- the same, if each paragraph keeps its level
abbrev pub uniform_layout_steps : ℕ
uniform_layout_steps = uniform_text_steps + uniform_line_steps

-- P1 to L2 at least: contents are found, levels are written, and the order is written
abbrev pub least_layout_steps : ℕ
least_layout_steps = 2 + 1

-- at most, to divide a text into new lines: one step for the end of each paragraph and one for each line make two for
-- each unit; the bound has one more
abbrev pub cutting_steps : ℕ
cutting_steps = 1 + 2

-- L1 and L2 at most, if a text is rebroken: the levels before L1 are restored too
abbrev pub breaking_steps : ℕ
breaking_steps = cutting_steps + 1 + arranging_steps

-- the same, if each paragraph keeps its level
abbrev pub uniform_breaking_steps : ℕ
uniform_breaking_steps = cutting_steps + uniform_line_steps

-- L1 and L2 at least, if a text is rebroken: its levels before L1 are restored, or its remaining positions are found,
-- and the order is written
abbrev pub least_breaking_steps : ℕ
least_breaking_steps = 1 + 1

-- L1 and L2 of one line alone at most, without the search through the paragraphs of its text: the levels before L1 are
-- copied, and the start of the line is added to each position of the order
abbrev pub line_of_steps : ℕ
line_of_steps = 1 + 1 + order_steps + 1

-- the same, if each paragraph keeps its level
abbrev pub uniform_line_of_steps : ℕ
uniform_line_of_steps = 1 + uniform_order_steps + 1

-- the same at least: the levels are copied, and put in order
abbrev pub least_line_of_steps : ℕ
least_line_of_steps = 1 + 1

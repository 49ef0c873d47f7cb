-- Breaks at every n positions of a paragraph.
use Rattle.std.specs.Prelude.{Option, ℕ, ◌+◌, ◌-◌, ◌%◌, ◌==◌, Bool, ◌&&◌, not, nat_lt, List, filter, Some, None, slice_index_or}
use Rattle.units.specs.Classes.{is_separator}
use Rattle.units.specs.Layout.{no_unit}
use Rattle.units.specs.Positions.{positions_of, last_below}
use Rattle.units.specs.declared.bracket.Unit.{Unit as BidiUnit}

-- a paragraph separator is at the position
abbrev pub separates_at : List BidiUnit → ℕ → Bool
separates_at text p = is_separator (slice_index_or text p no_unit).class

-- P1: after the separator at this position, or at the text's start if there is none
abbrev pub start_after : Option ℕ → ℕ
start_after None = 0
start_after (Some q) = q + 1

-- P1: the start of the paragraph of p
abbrev pub paragraph_start : List BidiUnit → ℕ → ℕ
paragraph_start text p = start_after (last_below (separates_at text) p)

-- p is after the start of its paragraph, by a multiple of the columns, and is no separator
abbrev pub is_column_break : List BidiUnit → ℕ → ℕ → Bool
is_column_break text columns p =
    not (separates_at text p) && (nat_lt (paragraph_start text p) p && ((p - paragraph_start text p) % columns == 0))

-- the breaks of a text at every `columns` positions of each paragraph, rising
abbrev pub column_breaks_of : List BidiUnit → ℕ → List ℕ
column_breaks_of text columns = filter (is_column_break text columns) (positions_of text)

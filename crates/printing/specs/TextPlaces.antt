-- Places in a text of bytes.
use Rattle.std.specs.Prelude.{ℕ, ◌+◌, ◌==◌, Bool, List, length, count_by}
use Rattle.printing.specs.declared.place.TextPlace.{TextPlace}

-- LF ends a line
abbrev pub ends_line : ℕ → Bool
ends_line byte = byte == 10

-- the place after these bytes of a text: its line, counted from 1, and how many bytes come before it
abbrev pub place_after : List ℕ → TextPlace
place_after bytes = record { line = count_by ends_line bytes + 1; offset = length bytes }

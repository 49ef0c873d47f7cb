-- What a layout says about a text, in positions of its characters.
use Rattle.std.specs.Prelude.{ℕ, ◌≡◌, ◌<◌, ◌≤◌, List, length}
use Rattle.units.specs.Layout.{LineLayout, TextLayout}
use Rattle.lines.specs.Layouts.{line_at}
use Rattle.room.specs.Looking.{bounds_of}
use Rattle.room.specs.Places.{WritesPlacesOf}
use Rattle.for_c.specs.Lines.{line_for_c}
use Rattle.for_c.specs.declared.call_error.CallError.{CallError}
use Rattle.for_c.specs.declared.call_error.CallError.TheVariants.{NoLine}
use Rattle.for_c.specs.declared.line.BidiLine.{BidiLine}

-- it is the line with the number k, and there is such a line
abbrev pub IsLineAt : TextLayout → ℕ → BidiLine → Type 0
IsLineAt layout k line = (k < length layout.lines) × (line ≡ line_for_c (bounds_of (line_at layout k)))

-- there is no line with the number k, for this reason
abbrev pub RejectsLine : TextLayout → ℕ → CallError → Type 0
RejectsLine layout k error = (error ≡ NoLine) × (length layout.lines ≤ k)

-- each position is that of its own character
abbrev pub IsSamePosition : ℕ → ℕ → Type 0
IsSamePosition position other = other ≡ position

-- L2: the line's positions are counted, and their places are written whole or not at all
abbrev pub WritesPlaces : LineLayout → ℕ → List ℕ → List ℕ → Type 0
WritesPlaces line counted old new = WritesPlacesOf IsSamePosition line.order line.start line.end counted old new

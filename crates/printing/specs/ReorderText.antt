-- The text that `reorder` prints for a text and its layout, as bytes.
use Rattle.std.specs.Prelude.{Option, ℕ, Bool, if◌then◌else◌, List, [], ◌++◌}
use Rattle.std.specs.Char.{encode_utf8}
use Rattle.std.specs.List.{flat_map}
use Rattle.units.specs.Layout.{TextLayout, LineLayout}
use Rattle.units.specs.Reordering.{shown_at}
use Rattle.units.specs.declared.bracket.Unit.{Unit as BidiUnit}
use Rattle.lines.specs.Layouts.{line_at}
use Rattle.printing.specs.Columns.{separates_at}
use Rattle.printing.specs.LevelsText.{line_feed}

-- a character in UTF-8, or nothing if the position is a paragraph separator
abbrev pub text_unless : Bool → ℕ → List ℕ
text_unless separates character = if separates then [] else encode_utf8 character

-- L4: what is printed for the position p: its character, mirrored if needed, or nothing if it is a paragraph separator
abbrev pub shown_text : (ℕ → Option ℕ) → List ℕ → List BidiUnit → List (Option ℕ) → ℕ → List ℕ
shown_text images chars text levels p = text_unless (separates_at text p) (shown_at images levels chars p)

-- L2, L4: a line from left to right, and LF
abbrev pub shown_line_text : (ℕ → Option ℕ) → List ℕ → List BidiUnit → List (Option ℕ) → LineLayout → List ℕ
shown_line_text images chars text levels line = flat_map (shown_text images chars text levels) line.order ++ line_feed

-- the same for the layout's line with the number k
abbrev pub text_of_line : (ℕ → Option ℕ) → List ℕ → List BidiUnit → TextLayout → ℕ → List ℕ
text_of_line images chars text layout k = shown_line_text images chars text layout.levels (line_at layout k)

-- the lines of a text, one after another
abbrev pub reorder_text : (ℕ → Option ℕ) → List ℕ → List BidiUnit → TextLayout → List ℕ
reorder_text images chars text layout = flat_map (shown_line_text images chars text layout.levels) layout.lines

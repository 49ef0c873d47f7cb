-- A text and its layout in one value.
use Rattle.std.specs.Prelude.{ℕ, ◌≤◌, ◌<◌, List, length}
use Rattle.units.specs.Layout.{LineLayout, TextLayout, longest_text}
use Rattle.units.specs.Reordering.{shown_of}
use Rattle.lines.specs.LineBreaks.{AreBreaks, IsFirstBreakFault}
use Rattle.ucdfiles.specs.Tables.{TablesOf, mirror_by}
use Rattle.room.specs.declared.text.Text.{Text}
use Rattle.room.specs.declared.text.TextFault.{TextFault}
use Rattle.room.specs.declared.text.TextFault.TheVariants.{TooLong, Break, Memory}

-- its characters
abbrev pub chars_in : Text → List ℕ
chars_in text = text.chars.items

-- the tables that it is laid out and shown with
abbrev pub tables_in_text : Text → TablesOf
tables_in_text text = text.tables.now

-- P1 to L2: its layout
abbrev pub layout_in_text : Text → TextLayout
layout_in_text text = text.room.layout

-- L4: the characters of a line from left to right, those at odd levels as their mirror images
abbrev pub shown_in : Text → LineLayout → List ℕ
shown_in text line =
    shown_of (mirror_by (tables_in_text text).mirrors) (layout_in_text text).levels (chars_in text) line.order

-- a text is laid out: it is not too long, and the breaks rise within it
pub record TakesText (chars breaks : List ℕ) : Type 0 where
  pub fits : length chars ≤ longest_text
  pub inside : AreBreaks breaks (length chars)

-- it is rejected for this reason; with `Memory` only if there is no other reason
abbrev pub RejectsText : List ℕ → List ℕ → TextFault → Type 0
RejectsText chars breaks TooLong = longest_text < length chars
RejectsText chars breaks (Break fault) = IsFirstBreakFault breaks (length chars) fault
RejectsText chars breaks Memory = TakesText chars breaks

-- The text that `levels` prints for a text and its layout without further breaks, as bytes.
use Rattle.std.specs.Prelude.{Option, ℕ, ◌-◌, true, List, [], ◌∷◌, ◌++◌, codes, length, replicate, Some, None, slice_index, slice_index_or}
use Rattle.std.specs.List.{concat, flat_map}
use Rattle.std.specs.Fmt.{decimal, digits}
use Rattle.units.specs.ClassNames.{short_name}
use Rattle.units.specs.Layout.{TextLayout, no_unit}
use Rattle.units.specs.Positions.{positions_from}
use Rattle.units.specs.declared.bracket.Unit.{Unit as BidiUnit}
use Rattle.units.specs.declared.class.Class.{Class}
use Rattle.lines.specs.Layouts.{no_line}

-- LF, which ends each printed line
abbrev pub line_feed : List ℕ
line_feed = 10 ∷ []

-- a code point in upper-case hex digits, at least four
unfoldable pub code_text : ℕ → List ℕ
code_text c = replicate (4 - length (digits 16 true c)) 48 ++ digits 16 true c

-- a level after L1, or x if the position was removed
abbrev pub level_text : Option ℕ → List ℕ
level_text None = codes "x"
level_text (Some level) = decimal level

-- the line of a position: the position in the text, its code point, original class and level
abbrev pub position_text : ℕ → ℕ → Class → Option ℕ → List ℕ
position_text p c class level =
    concat (decimal p ∷ codes " " ∷ code_text c ∷ codes " " ∷ short_name class ∷ codes " " ∷ level_text level ∷
    line_feed ∷ [])

-- the line before the positions of a paragraph: its number, counted from 0, and its level
abbrev pub paragraph_text : ℕ → ℕ → List ℕ
paragraph_text k level = concat (codes "paragraph " ∷ decimal k ∷ codes " level " ∷ decimal level ∷ line_feed ∷ [])

-- what is printed of each position from start up to end, one after another
abbrev pub printed : (ℕ → List ℕ) → ℕ → ℕ → List ℕ
printed text start end = flat_map text (positions_from start (end - start))

-- the line of the position p of a text
abbrev pub text_at_position : List ℕ → List BidiUnit → List (Option ℕ) → ℕ → List ℕ
text_at_position chars text levels p =
    position_text p (slice_index chars p) (slice_index_or text p no_unit).class (slice_index_or levels p None)

-- P1: without breaks each line is a paragraph: the line of the paragraph, and then the lines of its positions
abbrev pub text_of_paragraph : List ℕ → List BidiUnit → TextLayout → ℕ → List ℕ
text_of_paragraph chars text layout k =
    let line = slice_index_or layout.lines k no_line in
    paragraph_text k (slice_index_or layout.paras k 0) ++
    printed (text_at_position chars text layout.levels) line.start line.end

-- the paragraphs of a text, one after another
abbrev pub levels_text : List ℕ → List BidiUnit → TextLayout → List ℕ
levels_text chars text layout = printed (text_of_paragraph chars text layout) 0 (length layout.lines)

-- One line of a text alone.
use Rattle.std.specs.Prelude.{ℕ, ◌+◌, ◌<◌, ◌≤◌, ◌≡◌, true, false, Option, List, [], ◌∷◌, length, map, slice_range, take, count_by}
use Rattle.units.specs.Classes.{class_at, classes_of, is_separator}
use Rattle.units.specs.Isolates.{level_of_para}
use Rattle.units.specs.Layout.{TextLayout}
use Rattle.units.specs.Reordering.{begins_line, line_order, para_level_at}
use Rattle.units.specs.declared.bracket.Unit.{Unit as BidiUnit}
use Rattle.units.specs.declared.level.ParaLevel.{ParaLevel}
use Rattle.lines.specs.LineEnds.{EndsLineAt}
use Rattle.lines.specs.declared.alone.SpanFault.{SpanFault}
use Rattle.lines.specs.declared.alone.SpanFault.TheVariants.{NotForward, BeyondText, CrossesParagraph}

-- with these breaks the text has a line from start up to end
abbrev pub IsLineIn : List BidiUnit → List ℕ → ℕ → ℕ → Type 0
IsLineIn text breaks start end = EndsLineAt (begins_line (classes_of text) breaks) start end (length (classes_of text))

-- P1: no paragraph ends from start up to end, except with the last position
abbrev pub IsWithinParagraph : List BidiUnit → ℕ → ℕ → Type 0
IsWithinParagraph text start end =
    (p : ℕ) → start < p + 1 → p + 1 < end → is_separator (class_at (classes_of text) p) ≡ false

-- P2, P3: the paragraph that contains the position has this level
abbrev pub HasParaLevel : List BidiUnit → List ParaLevel → ℕ → ℕ → Type 0
HasParaLevel text paras position level = level ≡ para_level_at (classes_of text) (map level_of_para paras) position

-- a break at the start of a line, and one at its end
abbrev pub breaks_around : ℕ → ℕ → List ℕ
breaks_around start end = start ∷ end ∷ []

-- P1: with breaks at start and end, the text has this line, and the paragraph with this number contains it
pub record IsLineOfParagraph (text : List BidiUnit) (ends : List ℕ) (start end number : ℕ) : Type 0 where
  pub inside : number < length ends
  pub counted : number ≡ count_by is_separator (take start (classes_of text))
  pub line : IsLineIn text (breaks_around start end) start end

-- L1, L2: the levels and the order of the line from start up to end, in the layout of its text
pub record IsLineLaidOut (layout : TextLayout) (start end : ℕ) (levels : List (Option ℕ))
    (order : List ℕ) : Type 0 where
  pub leveled : levels ≡ slice_range layout.levels start end
  pub ordered : order ≡ line_order layout.levels start end

-- P1: a separator is between the two, and not in last place
pub record SeparatesWithin (text : List BidiUnit) (start end : ℕ) : Type 0 where
  pub at : ℕ
  pub from : start ≤ at
  pub before : at + 1 < end
  pub separates : is_separator (class_at (classes_of text) at) ≡ true

-- the text has no line from start up to end, for this reason; if there are several reasons, for the first of them
abbrev pub RejectsSpan : List BidiUnit → ℕ → ℕ → SpanFault → Type 0
RejectsSpan text start end NotForward = end ≤ start
RejectsSpan text start end BeyondText = (start < end) × (length text < end)
RejectsSpan text start end CrossesParagraph = (start < end) × (end ≤ length text) × SeparatesWithin text start end

-- The contents of a scratch.
use Rattle.std.specs.Prelude.{ℕ, ◌-◌, ◌<◌, ◌≤◌, ◌≡◌, ◌↔◌, false, true, Option, List, Result, IsErr, MatchResult, OnErr, OnOk, drop, length, map, take}
use Rattle.units.specs.Isolates.{level_of_para}
use Rattle.units.specs.Layout.{TextLayout, layout_of, para_levels_of, text_levels}
use Rattle.units.specs.Limits.{LimitsOf}
use Rattle.units.specs.declared.bracket.Unit.{Unit as BidiUnit}
use Rattle.units.specs.declared.level.Direction.{Direction}
use Rattle.units.specs.declared.level.ParaLevel.{ParaLevel}
use Rattle.lines.specs.Bounds.{AreBounds}
use Rattle.lines.specs.Columns.{bounds_filled, levels_filled, lines_filled, orders_filled, para_ends_filled, paras_filled, resolved_filled}
use Rattle.lines.specs.Unchanged.{each_keeps_level}
use Rattle.lines.specs.LineEnds.{AreAllParagraphEnds}
use Rattle.lines.specs.Spaces.{HasNoSegments}
use Rattle.lines.specs.LinesAlone.{IsLineIn, IsLineLaidOut, RejectsSpan, breaks_around}
use Rattle.lines.specs.declared.alone.SpanFault.{SpanFault}
use Rattle.lines.specs.declared.scratch.Scratch.{Scratch}

-- the capacity: the length of the longest text that it can lay out
abbrev pub room_of : Scratch → ℕ
room_of scratch = scratch.room

-- the length of the text that it contains
abbrev pub text_len_of : Scratch → ℕ
text_len_of scratch = scratch.used.units

-- the layout that it contains, at the fronts of all columns
abbrev pub layout_in : Scratch → TextLayout
layout_in scratch =
    record {
      paras = map level_of_para (paras_filled scratch.used.paragraphs scratch.text);
      levels = levels_filled scratch.used.units scratch.text;
      lines = lines_filled scratch.used.filled scratch.lines;
    }

-- it contains a layout
abbrev pub IsFilled : Scratch → Type 0
IsFilled scratch =
    AreBounds (levels_filled scratch.used.units scratch.text) (orders_filled scratch.used.filled scratch.lines)
    (bounds_filled scratch.used.filled scratch.lines)

-- P2, P3: the levels of the paragraphs of the text that it contains
abbrev pub paras_in : Scratch → List ParaLevel
paras_in scratch = paras_filled scratch.used.paragraphs scratch.text

-- P1: the ends of these paragraphs
abbrev pub para_ends_in : Scratch → List ℕ
para_ends_in scratch = para_ends_filled scratch.used.paragraphs scratch.text

-- P1 to I2: the resolved levels of that text, before L1
abbrev pub resolved_in : Scratch → List (Option ℕ)
resolved_in scratch = resolved_filled scratch.used.units scratch.used.uniform scratch.text

-- P1 to I2: it contains the results for this text under the direction with the limits, for any breaks
pub record HoldsText (limits : LimitsOf) (text : List BidiUnit) (direction : Direction) (scratch : Scratch) :
    Type 0 where
  pub units : text_len_of scratch ≡ length text
  pub ends : AreAllParagraphEnds text (para_ends_in scratch)
  pub paras : map level_of_para (paras_in scratch) ≡ para_levels_of text direction
  pub levels : resolved_in scratch ≡ text_levels limits text direction
  pub known : scratch.used.uniform ≡ each_keeps_level text direction
  pub segments : scratch.used.segmented ≡ false → HasNoSegments text

-- after a text is laid out: the scratch has the same capacity, and contains the layout; if the text is longer than the
-- capacity, the scratch is unchanged
pub record LeavesLayout {T E : Type 0} (limits : LimitsOf) (text : List BidiUnit) (direction : Direction)
    (breaks : List ℕ) (old new : Scratch) (done : Result T E) : Type 0 where
  pub room : room_of new ≡ room_of old
  pub too_long : IsErr done ↔ (room_of old < length text)
  pub unchanged : OnErr done (new ≡ old)
  pub filled : OnOk done (IsFilled new)
  pub laid_out : OnOk done (layout_in new ≡ layout_of limits text direction breaks)
  pub holds : OnOk done (HoldsText limits text direction new)

-- it contains this text, under some direction, with some limits
abbrev pub HoldsSomeLayoutOf : List BidiUnit → Scratch → Type 0
HoldsSomeLayoutOf text scratch = (limits : LimitsOf) × (direction : Direction) × HoldsText limits text direction scratch

-- it contains this text, and each paragraph of the text keeps its level
abbrev pub HoldsUniformText : List BidiUnit → Scratch → Type 0
HoldsUniformText text scratch =
    (limits : LimitsOf) × (direction : Direction) × HoldsText limits text direction scratch ×
    (each_keeps_level text direction ≡ true)

-- for each direction and all limits: if the old one contained this text, so does the new one
abbrev pub StillHoldsText : List BidiUnit → Scratch → Scratch → Type 0
StillHoldsText text old new =
    (limits : LimitsOf) (direction : Direction) → HoldsText limits text direction old →
    HoldsText limits text direction new

-- L1, L2: for each direction and all limits: if the old scratch contained this text, the layout is that with these
-- breaks
abbrev pub HasSetLines : List BidiUnit → List ℕ → Scratch → TextLayout → Type 0
HasSetLines text breaks old layout =
    (limits : LimitsOf) (direction : Direction) → HoldsText limits text direction old →
    layout ≡ layout_of limits text direction breaks

-- after a text is rebroken: the scratch has the same capacity, a layout with these breaks, and the same text
pub record LeavesLines (text : List BidiUnit) (breaks : List ℕ) (old new : Scratch) : Type 0 where
  pub room : room_of new ≡ room_of old
  pub filled : IsFilled new
  pub laid_out : HasSetLines text breaks old (layout_in new)
  pub holds : StillHoldsText text old new

-- L1, L2: for each direction and all limits with which the scratch contains this text, and for all breaks that make a
-- line from start up to end: these are the levels and the order of that line in the layout of the text
abbrev pub IsLineAlone : List BidiUnit → ℕ → ℕ → Scratch → List (Option ℕ) → List ℕ → Type 0
IsLineAlone text start end scratch levels order =
    (limits : LimitsOf) (direction : Direction) (breaks : List ℕ) → HoldsText limits text direction scratch
    → IsLineIn text breaks start end
    → IsLineLaidOut (layout_of limits text direction breaks) start end levels order

-- the new one contains what the old one contained: the same capacity, the same text and the same layout
pub record HoldsTheSame (old new : Scratch) : Type 0 where
  pub room : room_of new ≡ room_of old
  pub len : text_len_of new ≡ text_len_of old
  pub layout : layout_in new ≡ layout_in old
  pub filled : IsFilled old → IsFilled new
  pub text : (text : List BidiUnit) → StillHoldsText text old new

-- a line of the text that the scratch contains is written to the fronts of two lists, and the rest of the lists is
-- unchanged; the order has `shown` positions
pub record WritesLine (text : List BidiUnit) (start end : ℕ) (scratch : Scratch) (levels levels2 : List (Option ℕ))
    (order order2 : List ℕ) (shown : ℕ) : Type 0 where
  pub taken : IsLineIn text (breaks_around start end) start end
  pub line : IsLineAlone text start end scratch (take (end - start) levels2) (take shown order2)
  pub few : shown ≤ end - start
  pub levels_after : drop (end - start) levels2 ≡ drop (end - start) levels
  pub order_after : drop (end - start) order2 ≡ drop (end - start) order

-- after a line is laid out alone: it is written, or there is an error and nothing is written; the scratch contains the
-- same as before
pub record LeavesLine (text : List BidiUnit) (start end : ℕ) (old new : Scratch) (levels levels2 : List (Option ℕ))
    (order order2 : List ℕ) (shown : Result ℕ SpanFault) : Type 0 where
  pub line : MatchResult shown (WritesLine text start end old levels levels2 order order2) (RejectsSpan text start end)
  pub levels_stay : OnErr shown (levels2 ≡ levels)
  pub order_stays : OnErr shown (order2 ≡ order)
  pub holds : HoldsTheSame old new

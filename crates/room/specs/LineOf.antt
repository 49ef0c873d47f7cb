-- One line alone of the text that a room holds, in the units of its source.
use Rattle.std.specs.Prelude.{ℕ, ◌≡◌, ◌<◌, ◌≤◌, ◌+◌, ◌-◌, Option, None, List, drop, map, slice_index_or, take}
use Rattle.units.specs.Layout.{TextLayout, layout_of}
use Rattle.units.specs.Reordering.{line_order}
use Rattle.lines.specs.LinesAlone.{IsLineIn, IsLineLaidOut, SeparatesWithin, breaks_around}
use Rattle.lines.specs.declared.alone.SpanFault.{SpanFault}
use Rattle.lines.specs.declared.alone.SpanFault.TheVariants as span
use Rattle.room.specs.Boundaries.{IsBoundary}
use Rattle.room.specs.Looking.{IsAt, size_in}
use Rattle.room.specs.Rooms.{RoomOf, characters_in, offset_in}
use Rattle.room.specs.declared.line_of.LineFault.{LineFault}
use Rattle.room.specs.declared.line_of.LineFault.TheVariants.{TooSmall, NotForward, BeyondText, StartsInside, EndsInside, CrossesParagraph}

-- P1 to L2: the layout of the text that the room holds, broken at these characters
abbrev pub broken_at : RoomOf → List ℕ → TextLayout
broken_at room breaks = layout_of room.text.limits room.text.units room.text.direction breaks

-- the characters from one offset up to another are those from the first up to the last
pub record IsSpan (room : RoomOf) (start end first last : ℕ) : Type 0 where
  pub forward : first < last
  pub inside : last ≤ characters_in room
  pub begins : offset_in room first ≡ start
  pub ends : offset_in room last ≡ end

-- one line of characters, from the first up to the last, is written to the fronts of two lists, whichever breaks give
-- this line; what comes after it is unchanged
pub record WritesCharacters (room : RoomOf) (first last : ℕ) (levels levels2 : List (Option ℕ)) (order order2 : List ℕ)
    (shown : ℕ) : Type 0 where
  pub taken : IsLineIn room.text.units (breaks_around first last) first last
  pub line : (breaks : List ℕ) → IsLineIn room.text.units breaks first last →
      IsLineLaidOut (broken_at room breaks) first last (take (last - first) levels2) (take shown order2)
  pub few : shown ≤ last - first
  pub levels_after : drop (last - first) levels2 ≡ drop (last - first) levels
  pub order_after : drop (last - first) order2 ≡ drop (last - first) order

-- L1, L2: in this layout each unit from the start on has the level of its character, and the characters from the first
-- up to the last begin in this order
pub record IsLineInUnits (room : RoomOf) (layout : TextLayout) (start end first last : ℕ) (levels : List (Option ℕ))
    (order : List ℕ) : Type 0 where
  pub leveled : (i k : ℕ) → i < end - start → IsAt room (start + i) k →
      slice_index_or levels i None ≡ slice_index_or layout.levels k None
  pub ordered : order ≡ map (offset_in room) (line_order layout.levels first last)

-- one line of the text, from one offset up to another, is written so, whichever breaks give this line
pub record WritesLineOf (room : RoomOf) (start end : ℕ) (levels levels2 : List (Option ℕ)) (order order2 : List ℕ)
    (shown : ℕ) : Type 0 where
  pub first : ℕ
  pub last : ℕ
  pub span : IsSpan room start end first last
  pub taken : IsLineIn room.text.units (breaks_around first last) first last
  pub line : (breaks : List ℕ) → IsLineIn room.text.units breaks first last →
      IsLineInUnits room (broken_at room breaks) start end first last levels2 (take shown order2)
  pub few : shown ≤ end - start
  pub levels_after : drop (end - start) levels2 ≡ drop (end - start) levels
  pub order_after : drop (end - start) order2 ≡ drop (end - start) order

-- P1: a paragraph ends within the line, before its last character
pub record CrossesIn (room : RoomOf) (start end : ℕ) : Type 0 where
  pub first : ℕ
  pub last : ℕ
  pub span : IsSpan room start end first last
  pub separates : SeparatesWithin room.text.units first last

-- no line of the text goes from one offset up to another, for this reason; if there are several it is the first
abbrev pub RejectsSpan : RoomOf → ℕ → ℕ → LineFault → Type 0
RejectsSpan room start end NotForward = end ≤ start
RejectsSpan room start end BeyondText = (start < end) × (size_in room < end)
RejectsSpan room start end StartsInside =
    (start < end) × (end ≤ size_in room) × (IsBoundary (offset_in room) (characters_in room) start → ⊥)
RejectsSpan room start end EndsInside =
    (start < end) × (end ≤ size_in room) × IsBoundary (offset_in room) (characters_in room) start
    × (IsBoundary (offset_in room) (characters_in room) end → ⊥)
RejectsSpan room start end CrossesParagraph = CrossesIn room start end
RejectsSpan room start end TooSmall = ⊥

-- a line for which there are so many places is rejected for this reason: they are too few; if they are enough, there is
-- no such line
abbrev pub RejectsLineIn : RoomOf → ℕ → ℕ → ℕ → LineFault → Type 0
RejectsLineIn room start end places TooSmall = places < end - start
RejectsLineIn room start end places NotForward = RejectsSpan room start end NotForward
RejectsLineIn room start end places BeyondText = (end - start ≤ places) × RejectsSpan room start end BeyondText
RejectsLineIn room start end places StartsInside = (end - start ≤ places) × RejectsSpan room start end StartsInside
RejectsLineIn room start end places EndsInside = (end - start ≤ places) × RejectsSpan room start end EndsInside
RejectsLineIn room start end places CrossesParagraph = (end - start ≤ places) ×
    RejectsSpan room start end CrossesParagraph

-- the fault of a line whose characters have this one
abbrev pub fault_of_span : SpanFault → LineFault
fault_of_span span.NotForward = NotForward
fault_of_span span.BeyondText = BeyondText
fault_of_span span.CrossesParagraph = CrossesParagraph

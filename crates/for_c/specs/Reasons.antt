-- The error that a call fails with, from the reason why a room does not do what it is asked for.
use Rattle.lines.specs.declared.breaks.BreakFault.TheVariants.{OutOfRange, NotRising}
use Rattle.lines.specs.declared.scratch.RoomFault.{RoomFault}
use Rattle.lines.specs.declared.scratch.RoomFault.TheVariants as capacity
use Rattle.room.specs.declared.fault.LayoutFault.{LayoutFault}
use Rattle.room.specs.declared.fault.LayoutFault.TheVariants as layout
use Rattle.room.specs.declared.line_of.LineFault.{LineFault}
use Rattle.room.specs.declared.line_of.LineFault.TheVariants as line
use Rattle.sources.specs.Sources.{SourceOf, Codes, Classes, Units}
use Rattle.for_c.specs.declared.call_error.CallError.{CallError}
use Rattle.for_c.specs.declared.call_error.CallError.TheVariants.{Memory, TooBig, TooLong, NoCharacter, NoClass, BreakOutOfRange, BreakNotRising, NoRoom, TooSmall, LineNotForward, LineBeyondText, LineCrossesParagraph, IllFormed, BreakInside}

-- no room is made
abbrev pub error_of_room : RoomFault → CallError
error_of_room capacity.TooBig = TooBig
error_of_room capacity.Memory = Memory

-- a text in code units is not laid out, or the text of a room is not broken into lines again
abbrev pub error_of_layout : LayoutFault → CallError
error_of_layout layout.NoOffsets = NoRoom
error_of_layout layout.TooLong = TooLong
error_of_layout (layout.IllFormed at) = IllFormed at
error_of_layout (layout.Break (OutOfRange index)) = BreakOutOfRange index
error_of_layout (layout.Break (NotRising index)) = BreakNotRising index
error_of_layout (layout.BreakInside index) = BreakInside index

-- the text of a source is not laid out
abbrev pub error_of_text : SourceOf → LayoutFault → CallError
error_of_text (Codes codes) (layout.IllFormed index) = NoCharacter index
error_of_text (Classes numbers) (layout.IllFormed index) = NoClass index
error_of_text (Units numbered) (layout.IllFormed index) = NoClass index
error_of_text source fault = error_of_layout fault

-- one line alone is not laid out; its start counts as the break with the index 0, its end as that with the index 1
abbrev pub error_of_line : LineFault → CallError
error_of_line line.TooSmall = TooSmall
error_of_line line.NotForward = LineNotForward
error_of_line line.BeyondText = LineBeyondText
error_of_line line.StartsInside = BreakInside 0
error_of_line line.EndsInside = BreakInside 1
error_of_line line.CrossesParagraph = LineCrossesParagraph

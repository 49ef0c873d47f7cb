-- What handles contain.
use Rattle.std.specs.Prelude.{ℕ, true, false, Option, Some, None, []}
use Rattle.units.specs.Layout.{TextLayout, LineLayout}
use Rattle.lines.specs.Layouts.{line_at}
use Rattle.ucdfiles.specs.Tables.{TablesOf}
use Rattle.room.specs.Rooms.{RoomOf}
use Rattle.bidtests.specs.JudgedSoFar.{Judging}
use Rattle.for_c.specs.declared.report_for_c.ReportForC.{ReportForC}
use Rattle.bidi_c.specs.ContentsIn.{judge_in, report_in, room_for, room_in, tables_in}
use Rattle.bidi_c.specs.declared.contents.Contents.{Contents}
use Rattle.bidi_c.specs.declared.bidi_handle.BidiHandle.{BidiHandle}

-- what a handle contains
abbrev pub contents_at : BidiHandle → Option Contents
contents_at handle = handle.handle.value

-- the tables, if it contains tables
abbrev pub tables_at : BidiHandle → Option TablesOf
tables_at handle = tables_in (contents_at handle)

-- the room, if it contains a room
abbrev pub room_at : BidiHandle → Option RoomOf
room_at handle = room_in (contents_at handle)

-- the room, if it contains one with offsets
abbrev pub encoded_at : BidiHandle → Option RoomOf
encoded_at handle = room_for true (contents_at handle)

-- the judge, if it contains a judge
abbrev pub judge_at : BidiHandle → Option Judging
judge_at handle = judge_in (contents_at handle)

-- the report, if it contains a report
abbrev pub report_at : BidiHandle → Option ReportForC
report_at handle = report_in (contents_at handle)

-- the layout of no text
abbrev pub no_layout : TextLayout
no_layout = record { paras = []; levels = []; lines = [] }

-- the layout of a room; without a room that of no text
abbrev pub layout_if : Option RoomOf → TextLayout
layout_if (Some room) = room.layout
layout_if None = no_layout

-- the layout that a handle contains
abbrev pub layout_at : BidiHandle → TextLayout
layout_at handle = layout_if (room_at handle)

-- its line with the number k
abbrev pub line_of_room : BidiHandle → ℕ → LineLayout
line_of_room handle k = line_at (layout_at handle) k

-- the number of units of the longest text that fits into a room, 0 without a room
abbrev pub capacity_if : Option RoomOf → ℕ
capacity_if (Some room) = room.capacity
capacity_if None = 0

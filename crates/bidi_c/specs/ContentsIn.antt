-- What a handle contains, by its kind.
use Rattle.std.specs.Prelude.{Bool, true, false, not, Option, Some, None}
use Rattle.std.specs.Arc.{arc_value}
use Rattle.std.specs.Box.{with_value}
use Rattle.ucdfiles.specs.Tables.{TablesOf}
use Rattle.room.specs.Rooms.{RoomOf}
use Rattle.bidtests.specs.JudgedSoFar.{Judging}
use Rattle.for_c.specs.declared.report_for_c.ReportForC.{ReportForC}
use Rattle.bidi_c.specs.declared.contents.Contents.{Contents}
use Rattle.bidi_c.specs.declared.contents.Contents.TheVariants.{Tables, Room, Judge, Report}

-- the tables, if it contains tables
abbrev pub tables_in : Option Contents → Option TablesOf
tables_in (Some (Tables tables)) = Some (arc_value tables)
tables_in _ = None

-- the room, if it contains a room
abbrev pub room_in : Option Contents → Option RoomOf
room_in (Some (Room room)) = Some room
room_in _ = None

-- the judge, if it contains a judge
abbrev pub judge_in : Option Contents → Option Judging
judge_in (Some (Judge judge)) = Some judge.value
judge_in _ = None

-- the report, if it contains a report
abbrev pub report_in : Option Contents → Option ReportForC
report_in (Some (Report report)) = Some report.value
report_in _ = None

-- a room, if it has offsets or has none, as asked for
abbrev pub only_if : Bool → RoomOf → Option RoomOf
only_if true room = Some room
only_if false room = None

abbrev pub of_kind : Bool → RoomOf → Option RoomOf
of_kind true room = only_if room.encodes room
of_kind false room = only_if (not room.encodes) room

-- the room, if it contains one that has offsets, or else one that has none
abbrev pub room_for : Bool → Option Contents → Option RoomOf
room_for encodes (Some (Room room)) = of_kind encodes room
room_for encodes _ = None

-- the same contents with this judge in place of their own
abbrev pub with_judge : Contents → Judging → Contents
with_judge (Judge judge) last = Judge (with_value judge last)
with_judge contents last = contents

-- the same contents with this report in place of their own
abbrev pub with_report : Contents → ReportForC → Contents
with_report (Report report) last = Report (with_value report last)
with_report contents last = contents

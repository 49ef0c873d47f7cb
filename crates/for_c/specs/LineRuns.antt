-- All visual runs of a line, as C gets them.
use Rattle.std.specs.Prelude.{ℕ, Bool, true, false, ◌≡◌, ◌<◌, ◌≤◌, List, [], length, map}
use Rattle.visual.specs.LineRuns.{AreRunsOf}
use Rattle.visual.specs.declared.line.OrderedLine.{OrderedLine}
use Rattle.visual.specs.declared.runs.VisualRun.{VisualRun}
use Rattle.room.specs.Looking.{HasParaLevelOf}
use Rattle.room.specs.Rooms.{RoomOf}
use Rattle.room.specs.RunsIn.{IsOrderedLine, run_in}
use Rattle.room.specs.Written.{WritesWhole}
use Rattle.for_c.specs.Runs.{run_for_c}
use Rattle.for_c.specs.declared.runs.BidiRun.{BidiRun}

-- a run as C gets it, in units of the text's source or in positions of its characters
abbrev pub returned_run : RoomOf → Bool → VisualRun → BidiRun
returned_run room true run = run_for_c (run_in room run)
returned_run room false run = run_for_c run

-- L2: these are the runs of the line with the number k, in its paragraph
pub record AreRunsAt (room : RoomOf) (k : ℕ) (runs : List VisualRun) : Type 0 where
  pub line : OrderedLine
  pub is : IsOrderedLine room.layout k line.para_level line
  pub para : HasParaLevelOf room line.start line.para_level
  pub are : AreRunsOf line runs

-- L2: they are counted, and written so whole or not at all; if there is no such line there are none
pub record WritesRuns (room : RoomOf) (in_units : Bool) (k counted : ℕ) (old new : List BidiRun) : Type 0 where
  pub runs : List VisualRun
  pub are : k < length room.layout.lines → AreRunsAt room k runs
  pub none : length room.layout.lines ≤ k → runs ≡ []
  pub writes : WritesWhole (map (returned_run room in_units) runs) counted old new

-- The visual runs of a line, in the units of the source.
use Rattle.std.specs.Prelude.{ℕ, ◌≡◌, ◌≤◌, List, drop, length, map, take}
use Rattle.units.specs.Layout.{TextLayout}
use Rattle.units.specs.declared.level.ParaLevel.{ParaLevel}
use Rattle.lines.specs.Layouts.{line_at}
use Rattle.visual.specs.LineRuns.{AreRunsOf}
use Rattle.visual.specs.declared.line.OrderedLine.{OrderedLine}
use Rattle.visual.specs.declared.runs.VisualRun.{VisualRun}
use Rattle.room.specs.Looking.{HasParaLevelOf}
use Rattle.room.specs.Rooms.{RoomOf, offset_in}
use Rattle.room.specs.Written.{WritesWhole}

-- it is the line with the number k, in a paragraph of this level
pub record IsOrderedLine (layout : TextLayout) (k : ℕ) (para_level : ParaLevel) (line : OrderedLine) : Type 0 where
  pub levels : line.levels.now ≡ layout.levels
  pub shows : line_at layout k ≡ record { start = line.start; end = line.end; order = line.order.now }
  pub para : line.para_level ≡ para_level

-- a run from the first unit of its first character up to the one after its last
abbrev pub run_in : RoomOf → VisualRun → VisualRun
run_in room run =
    record { start = offset_in room run.start; end = offset_in room run.end; level = run.level; shown = run.shown }

-- L2: the runs of a line are counted, and written encoded if all fit; what comes after them is unchanged
pub record PutsRuns {T : Type 0} (encode : VisualRun → T) (line : OrderedLine) (count : ℕ) (old new : List T) :
    Type 0 where
  pub runs : List VisualRun
  pub are : AreRunsOf line runs
  pub counted : count ≡ length runs
  pub written : count ≤ length new → take count new ≡ map encode runs
  pub following : drop count new ≡ drop count old

-- L2: the runs of the line with the number k, in its paragraph, are counted, and written so whole or not at all
pub record WritesRuns (room : RoomOf) (k : ℕ) (counted : ℕ) (old new : List VisualRun) : Type 0 where
  pub line : OrderedLine
  pub is : IsOrderedLine room.layout k line.para_level line
  pub para : HasParaLevelOf room line.start line.para_level
  pub runs : List VisualRun
  pub are : AreRunsOf line runs
  pub writes : WritesWhole (map (run_in room) runs) counted old new

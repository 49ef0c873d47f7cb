-- The runs of a line with a number, as C gets them.
use Rattle.std.proofs.Common.{◌≡◌, ℕ, Bool, ◌<◌, ◌≤◌, List, [], length, refl, arith}
use Rattle.visual.specs.LineRuns.{HasAtMost, HasRuns}
use Rattle.visual.specs.declared.line.OrderedLine.{OrderedLine}
use Rattle.room.specs.Rooms.{RoomOf}
use Rattle.room.specs.RunsIn.{PutsRuns}
use Rattle.room.proofs.RunLists.{IsLineOf, all_written, none_written}
use Rattle.for_c.specs.LineRuns.{WritesRuns, returned_run}
use Rattle.for_c.specs.declared.runs.BidiRun.{BidiRun}

module _ (room : RoomOf) (in_units : Bool) (k : ℕ) (line : OrderedLine) (of : IsLineOf room k line)
    (inside : k < length room.layout.lines) where
  -- all runs of the line are written
  pub all_put : (count : ℕ) (old new : List BidiRun) → PutsRuns (returned_run room in_units) line count old new →
      length new ≡ length old → HasAtMost line (length old) → WritesRuns room in_units k count old new
  all_put count old new puts len few = record {
    runs = puts.runs;
    are = λ _. record { line = line; is = of.is; para = of.para; are = puts.are };
    none = λ ge. absurd (omega (arith, ge, inside));
    writes = all_written (returned_run room in_units) line count old new puts len few;
  }

  -- none is
  pub none_put : (count : ℕ) (old : List BidiRun) → HasRuns line count → length old < count →
      WritesRuns room in_units k count old old
  none_put count old has few = record {
    runs = has.runs;
    are = λ _. record { line = line; is = of.is; para = of.para; are = has.are };
    none = λ ge. absurd (omega (arith, ge, inside));
    writes = none_written (returned_run room in_units) line count old has few;
  }

-- there is no such line
pub no_runs : {room : RoomOf} {in_units : Bool} {k counted : ℕ} {old : List BidiRun} → length room.layout.lines ≤ k →
    counted ≡ 0 → WritesRuns room in_units k counted old old
no_runs ge zero =
    record {
      runs = [];
      are = λ lt. absurd (omega (arith, lt, ge));
      none = λ _. refl;
      writes = record { count = zero; written = λ _. refl; following = refl; unchanged = λ _. refl };
    }

-- All runs of a line.
use Rattle.std.specs.Prelude.{ℕ, ◌≡◌, ◌<◌, ◌≤◌, ◌+◌, Option, MatchOption, List, [], ◌∷◌, length, slice_index_or}
use Rattle.units.specs.Isolates.{level_of_para}
use Rattle.lines.specs.LinePositions.{HasLevel}
use Rattle.visual.specs.Spans.{AllRemoved}
use Rattle.visual.specs.VisualRuns.{Covers, IsRunAt, end_place}
use Rattle.visual.specs.declared.line.OrderedLine.{OrderedLine}
use Rattle.visual.specs.declared.runs.VisualRun.{VisualRun}

-- L2: the runs are side by side, from one place of the line up to another
abbrev pub AreSideBySide : OrderedLine → ℕ → List VisualRun → ℕ → Type 0
AreSideBySide line from [] to = from ≡ to
AreSideBySide line from (run ∷ runs) to = IsRunAt line from run × AreSideBySide line (from + run.shown) runs to

-- the value of a read past the last run, which no clause uses
abbrev pub no_run : VisualRun
no_run = record { start = 0; end = 0; level = 0; shown = 0 }

-- the run with the number k
abbrev pub run_numbered : List VisualRun → ℕ → VisualRun
run_numbered runs k = slice_index_or runs k no_run

-- the runs of the line, from left to right: they are side by side, and each position of the line is in exactly one of
-- them; one that shows nothing is first if the level of the paragraph is 1, and else last
pub record AreRunsOf (line : OrderedLine) (runs : List VisualRun) : Type 0 where
  pub stand : AreSideBySide line 0 runs (length line.order.now)
  pub covered : (p : ℕ) → line.start ≤ p → p < line.end → (k : ℕ) × (k < length runs) × Covers (run_numbered runs k) p
  pub apart : (i j p : ℕ) → i < j → j < length runs → Covers (run_numbered runs i) p → Covers (run_numbered runs j) p →
      ⊥

-- the line has this number of runs
pub record HasRuns (line : OrderedLine) (count : ℕ) : Type 0 where
  pub runs : List VisualRun
  pub are : AreRunsOf line runs
  pub counted : count ≡ length runs

-- the line has at most this number of runs
abbrev pub HasAtMost : OrderedLine → ℕ → Type 0
HasAtMost line most = (runs : List VisualRun) → AreRunsOf line runs → length runs ≤ most

-- the run of the removed positions at the end of the line: it is left of all others if the level of the paragraph is 1,
-- and else right of them
pub record IsRemovedRun (line : OrderedLine) (run : VisualRun) : Type 0 where
  pub empty : run.shown ≡ 0
  pub end : run.end ≡ line.end
  pub represents : IsRunAt line (end_place line) run

-- removed positions at the end of the line, if there are any, are directly after one that has the level of the
-- paragraph
abbrev pub JoinTheLast : OrderedLine → Type 0
JoinTheLast line =
    (p : ℕ) → line.start ≤ p → p < line.end → AllRemoved line.levels.now p line.end →
    (q : ℕ) × (line.start ≤ q) × (q < p) × HasLevel line.levels.now q (level_of_para line.para_level)
    × AllRemoved line.levels.now (q + 1) line.end

-- the line has this run of removed positions, or needs none
abbrev pub MayHaveRemovedRun : OrderedLine → Option VisualRun → Type 0
MayHaveRemovedRun line run = MatchOption run (JoinTheLast line) (IsRemovedRun line)

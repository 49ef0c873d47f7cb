-- The runs of a line from left to right.
use Rattle.std.specs.Prelude.{ℕ, ◌≡◌, ◌≢◌, ◌<◌, ◌≤◌, ◌+◌, ◌-◌, ◌%◌, None, IsSome, length, slice_index, slice_index_or}
use Rattle.units.specs.Isolates.{level_of_para}
use Rattle.units.specs.Reordering.{IsLineOrder}
use Rattle.units.specs.declared.level.ParaLevel.{ParaLevel}
use Rattle.units.specs.declared.level.ParaLevel.TheVariants.{Zero, One}
use Rattle.visual.specs.EffectiveLevelRanges.{effective_level}
use Rattle.visual.specs.declared.line.OrderedLine.{OrderedLine}
use Rattle.visual.specs.declared.runs.VisualRun.{VisualRun}

-- L2: the line's order is that of its levels
abbrev pub IsInOrder : OrderedLine → Type 0
IsInOrder line = IsLineOrder line.levels.now line.start line.end line.order.now

-- the level of the position in the line
abbrev pub level_in : OrderedLine → ℕ → ℕ
level_in line p = effective_level line.levels.now (level_of_para line.para_level) line.end p

-- the run has the position
abbrev pub Covers : VisualRun → ℕ → Type 0
Covers run p = (run.start ≤ p) × (p < run.end)

-- BD7: the run is a longest stretch of the line at one level, removed positions included
pub record IsLevelRun (line : OrderedLine) (run : VisualRun) : Type 0 where
  pub some : run.start < run.end
  pub from : line.start ≤ run.start
  pub within : run.end ≤ line.end
  pub level : (p : ℕ) → run.start ≤ p → p < run.end → level_in line p ≡ run.level
  pub begins : line.start < run.start → level_in line (run.start - 1) ≢ run.level
  pub ends : run.end < line.end → level_in line run.end ≢ run.level

-- the place after `count` places in the direction of a paragraph: the leftmost at level 1, else the one after the
-- rightmost
abbrev pub last_place : ParaLevel → ℕ → ℕ
last_place Zero count = count
last_place One count = 0

-- the place of the line's end
abbrev pub end_place : OrderedLine → ℕ
end_place line = last_place line.para_level (length line.order.now)

-- L2: the places from this one on, as many as the run shows, have exactly its remaining positions; from left to right
-- these rise at an even level and fall at an odd one; a run that shows nothing is at the end of the line
pub record RunIsAt (line : OrderedLine) (place : ℕ) (run : VisualRun) : Type 0 where
  pub inside : place + run.shown ≤ length line.order.now
  pub own : (i : ℕ) → place ≤ i → i < place + run.shown → Covers run (slice_index line.order.now i)
  pub all : (p : ℕ) → Covers run p → IsSome (slice_index_or line.levels.now p None) →
      (i : ℕ) × (place ≤ i) × (i < place + run.shown) × (slice_index line.order.now i ≡ p)
  pub removed : run.shown ≡ 0 → place ≡ end_place line
  pub rising : run.level % 2 ≡ 0 → (i j : ℕ) → place ≤ i → i < j → j < place + run.shown →
      slice_index line.order.now i < slice_index line.order.now j
  pub falling : run.level % 2 ≡ 1 → (i j : ℕ) → place ≤ i → i < j → j < place + run.shown →
      slice_index line.order.now j < slice_index line.order.now i

-- the run is one of the line, and begins at this place
pub record IsRunAt (line : OrderedLine) (place : ℕ) (run : VisualRun) : Type 0 where
  pub level : IsLevelRun line run
  pub represents : RunIsAt line place run

-- Visual runs, as C gets them.
use Rattle.std.specs.Prelude.{ℕ, ◌≡◌, ◌≢◌, ◌<◌, ◌≤◌, ◌+◌, ◌-◌, min, max, Option, None, List, length, slice_index, slice_index_or}
use Rattle.units.specs.Layout.{TextLayout}
use Rattle.lines.specs.Layouts.{line_at}
use Rattle.visual.specs.declared.runs.VisualRun.{VisualRun}
use Rattle.for_c.specs.LevelBytes.{level_byte}
use Rattle.for_c.specs.declared.call_error.CallError.{CallError}
use Rattle.for_c.specs.declared.call_error.CallError.TheVariants.{NoLine, NoPlace}
use Rattle.for_c.specs.declared.runs.BidiRun.{BidiRun}

-- a run as C gets it, with the number of positions that it spans
abbrev pub run_for_c : VisualRun → BidiRun
run_for_c run = record { start = run.start; length = run.end - run.start; shown = run.shown; level = run.level }

-- the level of the position at a place of the order, as a byte
abbrev pub byte_at : List (Option ℕ) → List ℕ → ℕ → ℕ
byte_at levels order place = level_byte (slice_index_or levels (slice_index order place) None)

-- the run of one level from this place on, as far as it goes: the places that it takes, and the positions that it spans
pub record IsVisualRun (levels : List (Option ℕ)) (order : List ℕ) (from : ℕ) (run : BidiRun) : Type 0 where
  pub some : 0 < run.shown
  pub inside : from + run.shown ≤ length order
  pub level : (i : ℕ) → from ≤ i → i < from + run.shown → byte_at levels order i ≡ run.level
  pub ends : from + run.shown < length order → byte_at levels order (from + run.shown) ≢ run.level
  pub start : run.start ≡ min (slice_index order from) (slice_index order (from + run.shown - 1))
  pub end : run.start + run.length ≡ max (slice_index order from) (slice_index order (from + run.shown - 1)) + 1

-- there is no run from a place of the line with the number k, for this reason: there is no such line, or no such place
-- in it
abbrev pub RejectsRun : TextLayout → ℕ → ℕ → CallError → Type 0
RejectsRun layout k from NoLine = length layout.lines ≤ k
RejectsRun layout k from NoPlace = (k < length layout.lines) × (length (line_at layout k).order ≤ from)
RejectsRun layout k from _ = ⊥

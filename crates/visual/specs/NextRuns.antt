-- The runs of a line, returned one after another.
use Rattle.std.specs.Prelude.{ℕ, ◌≡◌, ◌<◌, ◌+◌, ◌-◌, ◌⊎◌, true, false, Option, MatchOption, if◌then◌else◌, length}
use Rattle.visual.specs.VisualRuns.{IsInOrder, IsRunAt, end_place}
use Rattle.visual.specs.LineRuns.{IsRemovedRun, JoinTheLast}
use Rattle.visual.specs.declared.line_runs.Runs.{Runs}
use Rattle.visual.specs.declared.runs.VisualRun.{VisualRun}

-- the run is the next one, and the new state has the others: it takes the next places of the line, or it is the run of
-- removed positions at the line's end; in that case the end is the next place, and the run has not been returned
pub record IsNextRun (old : Runs) (given : VisualRun) (new : Runs) : Type 0 where
  pub line : new.line ≡ old.line
  pub run : IsInOrder old.line → IsRunAt old.line old.place given
  pub place : new.place ≡ old.place + given.shown
  pub closed : old.end_pending ≡ false → new.end_pending ≡ false
  pub either : ((0 < given.shown) × ((new.end_pending ≡ old.end_pending) ⊎ JoinTheLast old.line))
      ⊎ (IsRemovedRun old.line given × (old.end_pending ≡ true) × (new.end_pending ≡ false)
      × (old.place ≡ end_place old.line))

-- no run remains
pub record IsExhausted (old : Runs) : Type 0 where
  pub place : old.place ≡ length old.line.order.now
  pub end : (old.end_pending ≡ false) ⊎ JoinTheLast old.line

-- a call returns the next run and changes the state, or returns none if none remains
abbrev pub GivesRun : Runs → Option VisualRun → Runs → Type 0
GivesRun old given new = MatchOption given (IsExhausted old) (λ run. IsNextRun old run new)

-- at most this number of runs remains: one for each place, and that of removed positions
abbrev pub most_remaining : Runs → ℕ
most_remaining runs = (length runs.line.order.now - runs.place) + (if runs.end_pending then 1 else 0)

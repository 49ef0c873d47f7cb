use Rattle.visual.specs.Spans.{AllRemoved}
use Rattle.visual.proofs.runs.first_removed.Given as goal

-- the positions from this one on were removed
abbrev pub invariant-loop-first : goal.invariant-loop-first
invariant-loop-first l = AllRemoved l.levels l.first l.position

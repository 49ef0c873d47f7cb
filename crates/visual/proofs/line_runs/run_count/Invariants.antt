use Rattle.std.proofs.Common.{◌≡◌, List, length}
use Rattle.visual.specs.declared.runs.VisualRun.{VisualRun}
use Rattle.visual.proofs.Passed.{AreGiven}
use Rattle.visual.proofs.line_runs.run_count.Given as goal

-- the number is that of the runs returned so far
abbrev pub invariant-loop-run : goal.invariant-loop-run
invariant-loop-run l =
    (goal.iterator-loop-run).can_next l._run-iterator
    × (goal.iterator-loop-run).is_finite l._run-iterator
    × ((runs : List VisualRun) × AreGiven l.line runs l._run-iterator × (l.count ≡ length runs))

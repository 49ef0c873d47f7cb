use Rattle.std.proofs.Common.{◌≡◌, ◌≤◌, List, drop, length, map, take}
use Rattle.visual.specs.declared.runs.VisualRun.{VisualRun}
use Rattle.visual.proofs.Passed.{AreGiven}
use Rattle.for_c.specs.LineRuns.{returned_run}
use Rattle.for_c.proofs.line_runs.put_runs.Given as goal

-- the runs so far are counted, and written if they fit; what comes after them is unchanged
abbrev pub invariant-loop-run : goal.invariant-loop-run
invariant-loop-run l =
    (goal.iterator-loop-run).can_next l.run-iterator
    × (goal.iterator-loop-run).is_finite l.run-iterator
    × (length l.out ≡ length l.fn.out)
    × ((runs : List VisualRun) × AreGiven l.line runs l.run-iterator × (l.count ≡ length runs)
    × (l.count ≤ length l.out → take l.count l.out ≡ map (returned_run l.room l.in_units) runs) ×
    (drop l.count l.out ≡ drop l.count l.fn.out))

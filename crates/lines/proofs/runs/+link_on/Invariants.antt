use Rattle.std.proofs.Common.{◌+◌, ◌*◌, ◌-◌, ◌≤◌}
use Rattle.lines.specs.StepBounds.{linking_steps}
use Rattle.lines.proofs.RunLinking.{Grows}
use Rattle.lines.proofs.runs.+link_on.Given as goal

abbrev pub decreases-link_on : goal.decreases-link_on
decreases-link_on g l = l.line.now.end - l.run_end

abbrev pub invariant-loop-level : goal.invariant-loop-level
invariant-loop-level g l =
    record {
      grows : Grows l.line.levels.now l.fn.runs l.runs l.position l.least l.line.end l.stretch;
      from : l.run_end ≤ l.stretch.end;
      at_least : l.fn.steps + (l.stretch.end - l.run_end) ≤ l.steps;
      at_most : l.steps ≤ l.fn.steps + linking_steps * (l.stretch.end - l.run_end);
    }

abbrev pub decreases-loop-level : goal.decreases-loop-level
decreases-loop-level g l = l.line.end - l.stretch.end

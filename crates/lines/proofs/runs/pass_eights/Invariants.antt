use Rattle.std.proofs.Common.{◌≡◌, ◌+◌, ◌-◌, ◌≤◌}
use Rattle.lines.specs.LinePositions.{IsAtOneLevel}
use Rattle.lines.proofs.runs.pass_eights.Given as goal

abbrev pub invariant-loop-position : goal.invariant-loop-position
invariant-loop-position g l =
    record {
      later : l.start ≤ l.position;
      within : l.position ≤ l.end;
      uniform : IsAtOneLevel l.levels l.start l.position l.level;
      steps : l.steps + l.start ≡ l.fn.steps + l.position;
    }

abbrev pub decreases-loop-position : goal.decreases-loop-position
decreases-loop-position g l = l.end - l.position

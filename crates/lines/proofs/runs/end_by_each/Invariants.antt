use Rattle.std.proofs.Common.{◌≡◌, ◌+◌, ◌≤◌}
use Rattle.lines.specs.LinePositions.{IsAtOneLevel}
use Rattle.lines.proofs.runs.end_by_each.Given as goal

abbrev pub invariant-loop-next : goal.invariant-loop-next
invariant-loop-next g l =
    record {
      later : l.start ≤ l.next;
      uniform : IsAtOneLevel l.levels l.start l.next l.level;
      steps : l.steps + l.start ≡ l.fn.steps + l.next;
    }

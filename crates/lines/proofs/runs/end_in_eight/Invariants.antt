use Rattle.std.proofs.Common.{◌≡◌, ◌+◌}
use Rattle.lines.specs.LinePositions.{IsAtOneLevel}
use Rattle.lines.proofs.runs.end_in_eight.Given as goal

abbrev pub invariant-loop-k : goal.invariant-loop-k
invariant-loop-k g l =
    record {
      uniform : IsAtOneLevel l.levels l.start (l.start + l.k) l.level;
      steps : l.steps ≡ l.fn.steps + l.k;
    }

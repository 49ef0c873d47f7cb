use Rattle.std.proofs.Common.{◌≡◌, ◌+◌, ◌-◌, ◌≤◌, take}
use Rattle.lines.specs.LinePositions.{remaining}
use Rattle.lines.proofs.writing.write_each_rising.Given as goal

abbrev pub invariant-loop-position : goal.invariant-loop-position
invariant-loop-position g l =
    record {
      order : take l.count l.order ≡ remaining l.levels l.start l.position;
      count : l.count ≤ l.position - l.start;
      steps : l.steps ≡ l.initial.steps + (l.position - l.start);
    }

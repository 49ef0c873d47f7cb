use Rattle.std.proofs.Common.{◌≡◌, ◌+◌, ◌-◌, ◌≤◌, take}
use Rattle.lines.specs.LinePositions.{remaining}
use Rattle.lines.proofs.writing.write_eights_rising.Given as goal

abbrev pub invariant-loop-position : goal.invariant-loop-position
invariant-loop-position g l =
    record {
      low : l.start ≤ l.position;
      high : l.position ≤ l.end;
      order : take l.count l.order ≡ remaining l.levels l.start l.position;
      count : l.count ≤ l.position - l.start;
      steps : l.steps ≡ l.initial.steps + (l.position - l.start);
    }

abbrev pub decreases-loop-position : goal.decreases-loop-position
decreases-loop-position g l = l.end - l.position

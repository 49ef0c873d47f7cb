use Rattle.std.proofs.Common.{◌≡◌, ◌+◌, ◌-◌, ◌*◌, ◌≤◌, take}
use Rattle.lines.specs.LinePositions.{remaining}
use Rattle.lines.specs.StepBounds.{parts_of}
use Rattle.lines.proofs.LineParts.{AreParts}
use Rattle.lines.proofs.order.write_parts_rising.Given as goal

abbrev pub invariant-loop-position : goal.invariant-loop-position
invariant-loop-position g l =
    record {
      low : l.start ≤ l.position;
      high : l.position ≤ l.end;
      order : take l.count l.order ≡ remaining l.levels l.start l.position;
      count : l.count ≤ l.position - l.start;
      parts : AreParts (l.position - l.start) (l.end - l.start);
      steps : l.steps ≡ l.initial.steps + 2 * (l.position - l.start) + parts_of (l.position - l.start);
    }

abbrev pub decreases-loop-position : goal.decreases-loop-position
decreases-loop-position g l = l.end - l.position

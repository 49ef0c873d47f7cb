use Rattle.std.proofs.Common.{◌≡◌, ◌+◌, ◌-◌, ◌*◌, ◌≤◌, take}
use Rattle.std.specs.Prelude.{reverse}
use Rattle.lines.specs.LinePositions.{remaining}
use Rattle.lines.specs.StepBounds.{parts_of}
use Rattle.lines.proofs.LineParts.{AreParts}
use Rattle.lines.proofs.order.write_parts_falling.Given as goal

abbrev pub invariant-loop-position : goal.invariant-loop-position
invariant-loop-position g l =
    record {
      low : l.start ≤ l.position;
      high : l.position ≤ l.end;
      order : take l.count l.order ≡ reverse (remaining l.levels l.position l.end);
      count : l.count ≤ l.end - l.position;
      parts : AreParts (l.end - l.position) (l.end - l.start);
      steps : l.steps ≡ l.initial.steps + 2 * (l.end - l.position) + parts_of (l.end - l.position);
    }

abbrev pub decreases-loop-position : goal.decreases-loop-position
decreases-loop-position g l = l.position - l.start

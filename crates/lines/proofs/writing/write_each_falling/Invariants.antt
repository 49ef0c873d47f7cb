use Rattle.std.proofs.Common.{◌≡◌, ◌+◌, ◌-◌, ◌≤◌, take}
use Rattle.std.specs.Prelude.{reverse}
use Rattle.lines.specs.LinePositions.{remaining}
use Rattle.lines.proofs.writing.write_each_falling.Given as goal

abbrev pub invariant-loop-position : goal.invariant-loop-position
invariant-loop-position g l =
    record {
      within : l.start ≤ l.position;
      order : take l.count l.order ≡ reverse (remaining l.levels l.position l.end);
      count : l.count ≤ l.end - l.position;
      steps : l.steps ≡ l.initial.steps + (l.end - l.position);
    }

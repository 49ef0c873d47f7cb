use Rattle.std.proofs.Common.{◌+◌, ◌*◌, ◌-◌, ◌≤◌, length}
use Rattle.lines.specs.Spans.{order_of, units_in_span}
use Rattle.lines.proofs.RunWriting.{Writes}
use Rattle.lines.proofs.order.write_runs.Given as goal

abbrev pub invariant-loop-position : goal.invariant-loop-position
invariant-loop-position g l =
    record {
      writes : Writes l.line.levels.now l.runs (order_of l.line) l.chain.last (units_in_span l.line)
          (l.initial.steps + 2 * units_in_span l.line) l.order l.count l.position l.steps;
      at_least : l.initial.steps ≤ l.steps;
    }

abbrev pub decreases-loop-position : goal.decreases-loop-position
decreases-loop-position g l = length l.order - l.count

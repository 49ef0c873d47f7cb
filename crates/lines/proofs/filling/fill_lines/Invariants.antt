use Rattle.std.proofs.Common.{take, ◌≡◌, ◌≤◌, ◌+◌, ◌*◌, List, ℕ}
use Rattle.std.specs.Prelude.{IsTrue, count_by}
use Rattle.units.specs.Classes.{classes_of, is_separator}
use Rattle.units.specs.Reordering.{begins_line}
use Rattle.lines.specs.Bounds.{bound_at}
use Rattle.lines.specs.LineEnds.{AreAllLineEnds}
use Rattle.lines.specs.StepBounds.{uniform_line_steps, line_steps}
use Rattle.lines.proofs.LinesWritten.{Filling}
use Rattle.lines.proofs.filling.fill_lines.Given as goal

abbrev pub invariant-loop-line : goal.invariant-loop-line
invariant-loop-line g l =
    record {
      filling : (breaks : List ℕ) → AreAllLineEnds l.own breaks l.resolved.lines l.initial.bounds →
          Filling l.levels (begins_line (classes_of l.own) breaks) (bound_at l.initial.bounds l.line).position
          (take l.positions l.orders) (take (l.line + 1) l.bounds);
      unchanged : (k : ℕ) → (bound_at l.bounds k).position ≡ (bound_at l.initial.bounds k).position;
      few_positions : l.positions ≤ (bound_at l.initial.bounds l.line).position;
      counted : l.paragraph ≡
          count_by is_separator (take (bound_at l.initial.bounds l.line).position (classes_of l.own));
      at_least : l.initial.steps + (bound_at l.initial.bounds l.line).position + l.line ≤ l.steps;
      at_most : l.steps ≤ l.initial.steps + line_steps * (bound_at l.initial.bounds l.line).position;
      twice : IsTrue l.resolved.uniform → l.initial.steps + 2 * (bound_at l.initial.bounds l.line).position ≤ l.steps;
      if_uniform : IsTrue l.resolved.uniform →
          l.steps ≤ l.initial.steps + uniform_line_steps * (bound_at l.initial.bounds l.line).position;
    }

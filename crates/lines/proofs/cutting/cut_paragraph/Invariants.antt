use Rattle.std.proofs.Common.{◌-◌, ◌≡◌, ◌<◌, ◌≤◌, ◌+◌, List, length}
use Rattle.units.specs.declared.class.Class.{Class as BidiClass}
use Rattle.lines.specs.LineEnds.{AreLineEnds, BreaksArePassed, IsParagraphAt}
use Rattle.lines.proofs.cutting.cut_paragraph.Given as goal

abbrev pub invariant-loop-position : goal.invariant-loop-position
invariant-loop-position g l =
    record {
      from : l.start ≤ l.position;
      within : l.position ≤ l.end;
      passed : BreaksArePassed l.at l.passed l.position;
      few_passed : l.passed ≤ l.position;
      few_lines : l.lines ≤ l.fn.cut.lines + (l.position - l.start);
      more_lines : l.start < l.position → l.fn.cut.lines < l.lines;
      no_fewer_lines : l.fn.cut.lines ≤ l.lines;
      ends : (own : List BidiClass) → length own ≡ l.len → IsParagraphAt own l.start l.end →
          AreLineEnds own l.at l.fn.cut.lines l.start l.initial.bounds →
          AreLineEnds own l.at l.lines l.position l.bounds;
      steps : l.steps ≡ l.initial.steps + (l.lines - l.fn.cut.lines);
    }

abbrev pub decreases-loop-position : goal.decreases-loop-position
decreases-loop-position g l = l.end - l.position

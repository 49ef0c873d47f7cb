use Rattle.std.proofs.Common.{◌≤◌, drop, length}
use Rattle.lines.specs.Scratches.{room_of}
use Rattle.printing.proofs.Passing.{HasPrintedUpTo}
use Rattle.explain.specs.RowTexts.{case_text}
use Rattle.explain.proofs.row_print.print_cases.Given as goal

abbrev pub invariant-loop-direction : goal.invariant-loop-direction
invariant-loop-direction g l = record {
  passed : HasPrintedUpTo (g.W.Write.contents l.initial.w) (g.W.Write.contents l.w) (case_text l.number l.row)
      l.directions (drop l.direction-index l.directions);
  room : length l.row.expected.text ≤ room_of l.scratch;
}

use Rattle.std.proofs.Common.{◌≡◌, length}
use Rattle.std.specs.Prelude.{filter}
use Rattle.std.specs.List.{All}
use Rattle.units.specs.Limits.{standard}
use Rattle.printing.proofs.Passing.{HasPrintedUpTo}
use Rattle.rows.specs.Placing.{has_some}
use Rattle.rows.specs.RowTexts.{cases_text}
use Rattle.rows.specs.Rooms.{KeepsRowRoom}
use Rattle.rows.specs.TextLines.{cases_of_line, kind_of, row_lines}
use Rattle.rows.proofs.LineLists.{IsRowLine, IsShort, remaining_lines, remaining_size}
use Rattle.rows.proofs.print_lines.print_each_line.Given as goal

abbrev pub invariant-loop-remaining : goal.invariant-loop-remaining
invariant-loop-remaining g l = record {
  passed : HasPrintedUpTo (g.W.Write.contents l.initial.w) (g.W.Write.contents l.w)
      (λ line. cases_text standard (kind_of l.naming) (cases_of_line l.naming l.directions line)) (row_lines l.text)
      (filter has_some (remaining_lines l.remaining));
  short : All IsShort (remaining_lines l.remaining);
  rows : All (IsRowLine l.naming) (filter has_some (remaining_lines l.remaining)) →
      All (IsRowLine l.naming) (row_lines l.text);
  room : KeepsRowRoom l.fn.room l.room;
  size : length l.row ≡ length l.fn.row;
}

abbrev pub decreases-loop-remaining : goal.decreases-loop-remaining
decreases-loop-remaining g l = remaining_size l.remaining

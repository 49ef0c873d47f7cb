use Rattle.std.proofs.Common.{◌≡◌, length}
use Rattle.units.specs.Limits.{standard}
use Rattle.printing.proofs.Printing.{HasPrinted}
use Rattle.rows.specs.RowTexts.{cases_text}
use Rattle.rows.specs.Rooms.{KeepsRowRoom}
use Rattle.rows.specs.Exhaustive.{cases_of_number}
use Rattle.rows.proofs.print.print_length.Given as goal

abbrev pub invariant-loop-number : goal.invariant-loop-number
invariant-loop-number g l = record {
  printed : HasPrinted (g.W.Write.contents l.initial.w) (g.W.Write.contents l.w) (λ n.
      cases_text standard l.kind (cases_of_number l.alphabet l.directions (length l.fn.text) n)) 0 l.number;
  room : KeepsRowRoom l.fn.room l.room;
  size : length l.text ≡ length l.fn.text;
}

use Rattle.std.proofs.Common.{◌≡◌, length}
use Rattle.units.specs.Limits.{standard}
use Rattle.printing.proofs.Printing.{HasPrinted}
use Rattle.rows.specs.RowTexts.{cases_text}
use Rattle.rows.specs.Rooms.{KeepsRowRoom}
use Rattle.rows.specs.Random.{cases_of_draw}
use Rattle.rows.proofs.print_random.print_draws.Given as goal

abbrev pub invariant-loop-number : goal.invariant-loop-number
invariant-loop-number g l = record {
  printed : HasPrinted (g.W.Write.contents l.initial.w) (g.W.Write.contents l.w) (λ n.
      cases_text standard l.kind (cases_of_draw l.texts l.directions n)) 0 l.number;
  room : KeepsRowRoom l.fn.room l.room;
  size : length l.row ≡ length l.fn.row;
}

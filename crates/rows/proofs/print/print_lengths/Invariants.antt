use Rattle.std.proofs.Common.{◌≤◌, ◌+◌}
use Rattle.std.specs.Prelude.{max}
use Rattle.units.specs.Limits.{standard}
use Rattle.printing.proofs.Printing.{HasPrinted}
use Rattle.rows.specs.RowTexts.{cases_text}
use Rattle.rows.specs.Rooms.{KeepsRowRoom}
use Rattle.rows.specs.Exhaustive.{cases_of_length}
use Rattle.rows.proofs.print.print_lengths.Given as goal

abbrev pub invariant-loop-len : goal.invariant-loop-len
invariant-loop-len g l = record {
  printed : HasPrinted (g.W.Write.contents l.initial.w) (g.W.Write.contents l.w) (λ n.
      cases_text standard l.kind (cases_of_length l.alphabet l.directions n)) l.texts.least l.len;
  stays : l.len ≤ max l.texts.least (l.texts.greatest + 1);
  room : KeepsRowRoom l.fn.room l.room;
}

use Rattle.std.proofs.Common.{length, ◌++◌}
use Rattle.std.specs.Prelude.{codes}
use Rattle.printing.proofs.Passing.{HasPrintedUpTo}
use Rattle.rows.proofs.item_text.print_after_blanks.Given as goal

abbrev pub invariant-loop-remaining : goal.invariant-loop-remaining
invariant-loop-remaining g l =
    HasPrintedUpTo (g.W.Write.contents l.initial.w) (g.W.Write.contents l.w) (λ x. codes " " ++
    g.T.RowItem.text x) l.items l.remaining

abbrev pub decreases-loop-remaining : goal.decreases-loop-remaining
decreases-loop-remaining g l = length l.remaining

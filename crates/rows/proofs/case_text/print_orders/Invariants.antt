use Rattle.std.proofs.Common.{drop}
use Rattle.std.specs.Fmt.{decimal}
use Rattle.lines.specs.Layouts.{view_of}
use Rattle.printing.proofs.Passing.{HasPrintedUpTo}
use Rattle.rows.specs.RowTexts.{after_blanks}
use Rattle.rows.proofs.case_text.print_orders.Given as goal

abbrev pub invariant-loop-k : goal.invariant-loop-k
invariant-loop-k g l =
    let lines = (view_of l.layout).lines in
    HasPrintedUpTo (g.W.Write.contents l.initial.w) (g.W.Write.contents l.w) (λ line.
    after_blanks decimal line.order) lines (drop l.k lines)

use Rattle.std.proofs.Common.{◌+◌, drop}
use Rattle.printing.proofs.Passing.{HasPrintedUpTo}
use Rattle.explain.specs.Feet.{listed_text}
use Rattle.explain.proofs.foot.print_order.Given as goal

abbrev pub invariant-loop-position : goal.invariant-loop-position
invariant-loop-position g l =
    HasPrintedUpTo (g.W.Write.contents l.initial.w) (g.W.Write.contents l.w) (λ p. listed_text (l.start + p)) l.order
    (drop l.position-index l.order)

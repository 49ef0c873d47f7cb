use Rattle.std.proofs.Common.{◌+◌, drop}
use Rattle.printing.proofs.Passing.{HasPrintedUpTo}
use Rattle.explain.specs.Feet.{listed_text}
use Rattle.explain.proofs.foot.print_positions.Given as goal

abbrev pub invariant-loop-position : goal.invariant-loop-position
invariant-loop-position g l =
    HasPrintedUpTo (g.W.Write.contents l.initial.w) (g.W.Write.contents l.w) (λ p.
    listed_text (l.start + p)) l.positions (drop l.position-index l.positions)

use Rattle.printing.specs.Following.{position_after}
use Rattle.printing.proofs.Printing.{HasPrinted}
use Rattle.printing.proofs.layout_text.print_positions.Given as goal

abbrev pub invariant-loop-p : goal.invariant-loop-p
invariant-loop-p g l =
    HasPrinted (g.W.Write.contents l.initial.w) (g.W.Write.contents l.w)
    (position_after l.passed l.chars l.text l.levels) 0 l.p

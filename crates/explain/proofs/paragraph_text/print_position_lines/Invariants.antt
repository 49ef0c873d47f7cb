use Rattle.printing.proofs.Printing.{HasPrinted}
use Rattle.explain.specs.Explained.{position_text_at}
use Rattle.explain.proofs.paragraph_text.print_position_lines.Given as goal

abbrev pub invariant-loop-p : goal.invariant-loop-p
invariant-loop-p g l =
    HasPrinted (g.W.Write.contents l.initial.w) (g.W.Write.contents l.w)
    (position_text_at l.chars l.para l.columns l.start) 0 l.p

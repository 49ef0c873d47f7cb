use Rattle.printing.proofs.Printing.{HasPrinted}
use Rattle.explain.specs.Explained.{pair_at}
use Rattle.explain.proofs.paragraph_text.print_pairs.Given as goal

abbrev pub invariant-loop-p : goal.invariant-loop-p
invariant-loop-p g l =
    HasPrinted (g.W.Write.contents l.initial.w) (g.W.Write.contents l.w) (pair_at l.columns l.start) 0 l.p

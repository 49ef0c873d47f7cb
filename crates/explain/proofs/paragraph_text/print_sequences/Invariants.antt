use Rattle.printing.proofs.Printing.{HasPrinted}
use Rattle.explain.specs.Explained.{sequence_line}
use Rattle.explain.proofs.paragraph_text.print_sequences.Given as goal

abbrev pub invariant-loop-k : goal.invariant-loop-k
invariant-loop-k g l =
    HasPrinted (g.W.Write.contents l.initial.w) (g.W.Write.contents l.w) (sequence_line l.columns l.start) 0 l.k

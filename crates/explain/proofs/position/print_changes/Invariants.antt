use Rattle.printing.proofs.Printing.{HasPrinted}
use Rattle.explain.specs.PositionText.{change_text}
use Rattle.explain.proofs.position.print_changes.Given as goal

abbrev pub invariant-loop-k : goal.invariant-loop-k
invariant-loop-k g l =
    HasPrinted (g.W.Write.contents l.initial.w) (g.W.Write.contents l.w) (change_text l.remains l.classes) 1 l.k

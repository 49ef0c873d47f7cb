use Rattle.std.proofs.Common.{length}
use Rattle.report.proofs.Printing.{HasGone}
use Rattle.report.proofs.print.print_piece.Given as goal

abbrev pub invariant-loop-rest : goal.invariant-loop-rest
invariant-loop-rest g l =
    HasGone l.initial.report l.report l.most l.remaining (g.W.Write.contents l.initial.w)
    (g.W.Write.contents l.w) l.piece l.rest

abbrev pub decreases-loop-rest : goal.decreases-loop-rest
decreases-loop-rest g l = length l.rest

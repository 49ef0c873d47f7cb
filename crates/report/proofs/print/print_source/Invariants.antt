use Rattle.std.proofs.Common.{ℕ, List}
use Rattle.report.specs.declared.wrong_case.WrongCase.{WrongCase}
use Rattle.report.specs.PrintedReports.{HasReported, HasWrittenFirst}
use Rattle.report.proofs.print.print_source.Given as goal

abbrev pub invariant-loop-n : goal.invariant-loop-n
invariant-loop-n g l =
    (given : List ℕ) × (reported : List WrongCase)
    × g.S.ByteSource.gives l.initial.source given l.source
    × HasReported l.initial.report reported given l.report
    × HasWrittenFirst l.most reported (g.W.Write.contents l.initial.w) (g.W.Write.contents l.w) l.remaining

abbrev pub decreases-loop-n : goal.decreases-loop-n
decreases-loop-n g l = g.S.ByteSource.most_remaining l.source

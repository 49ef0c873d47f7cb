use Rattle.std.proofs.Common.{drop}
use Rattle.printing.proofs.Passing.{HasPrintedUpTo}
use Rattle.report.specs.ReportText.{wrong_case_text}
use Rattle.report.proofs.print.print_cases.Given as goal

abbrev pub invariant-loop-case : goal.invariant-loop-case
invariant-loop-case g l =
    HasPrintedUpTo (g.W.Write.contents l.initial.w) (g.W.Write.contents l.w) wrong_case_text l.cases
    (drop l.case-index l.cases)

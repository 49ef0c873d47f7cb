use Rattle.std.proofs.Common.{◌≡◌, ◌∙◌, get_or, subst}
use Rattle.std.specs.Io.KnownBytes.{Appends}
use Rattle.std.proofs.lemmas.List.{drop_more, get_or_default}
use Rattle.printing.proofs.Passing.{one_more_passed}
use Rattle.report.specs.declared.wrong_case.WrongCase.{WrongCase}
use Rattle.report.specs.ReportText.{wrong_case_text}
use Rattle.report.proofs.print.print_cases.Goals as goal

pub loop-case-preserved : goal.loop-case-preserved
loop-case-preserved g c =
    let item = c.case-item.result in
    let at : item ≡ get_or c.args.cases.now c.loop-case.case-index item =
    c.case-item.is ∙ get_or_default _ _ _ item c.loop-case-test.true in
    one_more_passed wrong_case_text _ _ _ _ _ _ _
    (drop_more c.args.cases.now c.loop-case.case-index item c.loop-case-test.true) c.loop-case.invariant
    (subst (λ (w : WrongCase). Appends (g.W.Write.contents c.loop-case.w) (g.W.Write.contents c.print_wrong_case.new.w)
    (wrong_case_text w)) at c.in_ok-print_wrong_case.ensures.written)

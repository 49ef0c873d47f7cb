use Rattle.std.proofs.Common.{List, ℕ, ap, ap₂}
use Rattle.units.specs.Limits.{standard}
use Rattle.units.specs.declared.bracket.Unit.{Unit as BidiUnit}
use Rattle.bidtests.specs.Headline.{layout_under}
use Rattle.bidtests.specs.Verdicts.{Expected}
use Rattle.explain.specs.Explained.{explained_units}
use Rattle.explain.specs.RowTexts.{case_heading, expected_text}
use Rattle.printing.proofs.Appending.{Appends-joined, Appends-to}
use Rattle.printing.proofs.Fronts.{fault_along, front_after, front_more, front_to, leaves_on}
use Rattle.explain.proofs.row_print.print_case.Goals as goal

pub returns-clause-text : goal.returns-clause-text
returns-clause-text g c =
    let d = c.args.direction in
    let is = c.expected-expected.ensures.expected in
    let units = Appends-to _ _ _ _ (ap₂ (λ (chars : List ℕ) (text : List BidiUnit).
    explained_units chars text d) c.chars.ensures (ap (λ (expected : Expected). expected.text) is))
    c.in_ok-print_units.ensures.text in
    let begun = Appends-joined _ _ _ (case_heading c.args.number d) _ c.in_ok-print_case_heading.ensures units in
    let beside = Appends-to _ _ _ _ (ap (λ (expected : Expected).
    expected_text expected (layout_under standard expected d)) is) c.in_ok-print_beside.ensures.text in
    Appends-joined _ _ _ _ _ begun beside

pub returns-in_err-print_units-clause-fault : goal.returns-in_err-print_units-clause-fault
returns-in_err-print_units-clause-fault g c =
    let d = c.args.direction in
    let is = c.expected-expected.ensures.expected in
    let text = ap (λ (expected : Expected). expected.text) is in
    let same = ap₂ (λ (chars : List ℕ) (text : List BidiUnit). explained_units chars text d) c.chars.ensures text in
    let heading = c.in_ok-print_case_heading.ensures in
    leaves_on _ _ _ _ _ c.from_residual-in_err-print_units.ensures.1
    (fault_along _ _ _ _ _ _ _
    (λ v. front_more _ _ _ _ (front_after (case_heading c.args.number d) _ _ _ _ heading (front_to _ _ _ _ same v)))
    c.in_err-print_units.ensures.fault)

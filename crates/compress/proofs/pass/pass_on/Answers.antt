use Rattle.std.proofs.Common.{ap, sym, true, ◌∙◌, ◌≡◌}
use Rattle.units.specs.declared.bracket.Unit.{Unit as BidiUnit}
use Rattle.units.specs.declared.class.Class.TheVariants.{WS}
use Rattle.compress.specs.PassedSets.{has}
use Rattle.compress.specs.Squeeze.{is_open_letter, passes_after}
use Rattle.compress.proofs.Counting.{at}
use Rattle.compress.proofs.Passing.{open_letter, run_leads, stop_apart}
use Rattle.compress.proofs.pass.pass_on.Goals as goal

pub returns-then-has-clause-leads : goal.returns-then-has-clause-leads
returns-then-has-clause-leads g c = λ chosen starts k e laid way.
    let run = c.pass_first.ensures in
    run_leads c.args.direction c.args.para.now chosen starts k c.args.start c.pass_first.result c.args.top (has c.passed_after-set.result) e
    c.passed_after-set.ensures run.from_start run.within run.passed run.bare laid way

pub returns-then-has-clause-apart : goal.returns-then-has-clause-apart
returns-then-has-clause-apart g c = λ chosen k e lt.
    stop_apart c.args.direction chosen k c.args.top (at c.args.para.now c.pass_first.result) (has c.passed_after-set.result) e
    c.passed_after-set.ensures (c.pass_first.ensures.stopped lt)

pub returns-then-is_strong-clause-leads : goal.returns-then-is_strong-clause-leads
returns-then-is_strong-clause-leads g c = λ chosen starts k e laid way.
    let d = c.args.direction in
    let opened : is_open_letter d c.args.top ≡ true =
    open_letter d c.args.top (sym c.is_bare.ensures ∙ c.if-is_bare.true) (sym c.is_strong.ensures ∙ c.if-is_strong.true)
    (sym (c.passed_after-set.ensures WS) ∙ sym c.has.ensures ∙ c.if-has.false) in
    c.pass_words.ensures.leads d chosen starts k (sym (ap (is_open_letter d) e) ∙ opened) (ap (λ (u : BidiUnit). u.class) e)
    (λ next. c.passed_after-set.ensures next ∙ ap (λ t. passes_after d t next) e) laid way

pub returns-then-is_strong-clause-apart : goal.returns-then-is_strong-clause-apart
returns-then-is_strong-clause-apart g c = λ chosen k e lt.
    stop_apart c.args.direction chosen k c.args.top (at c.args.para.now c.pass_words.result) (has c.passed_after-set.result) e
    c.passed_after-set.ensures (c.pass_words.ensures.stopped lt)

pub returns-clause-leads : goal.returns-clause-leads
returns-clause-leads g c = λ chosen starts k e laid way.
    let run = c.pass_singly.ensures in
    run_leads c.args.direction c.args.para.now chosen starts k c.args.start c.pass_singly.result c.args.top (has c.passed_after-set.result) e
    c.passed_after-set.ensures run.from_start run.within run.passed run.bare laid way

pub returns-clause-apart : goal.returns-clause-apart
returns-clause-apart g c = λ chosen k e lt.
    stop_apart c.args.direction chosen k c.args.top (at c.args.para.now c.pass_singly.result) (has c.passed_after-set.result) e
    c.passed_after-set.ensures (c.pass_singly.ensures.stopped lt)

use Rattle.std.proofs.Common.{arith}
use Rattle.printing.proofs.Appending.{Appends-to}
use Rattle.printing.proofs.Fronts.{leaves_on}
use Rattle.explain.proofs.Explaining.{nothing_explained, next_paragraph, one_more_explained, all_explained, breaks_off, same_paragraph}
use Rattle.explain.proofs.print.print_units.Goals as goal

pub loop-number-init : goal.loop-number-init
loop-number-init g c =
    rw (
      c.into_iter-number-iterator.ensures.into_iter_gives,
      c.enumerate-number-items.ensures.source,
      c.enumerate-number-items.ensures.count,
      c.paragraphs.ensures.pieces,
    )
    (nothing_explained _ c.args.text.now _)

pub explain_paragraph-requires-clause-separators : goal.explain_paragraph-requires-clause-separators
explain_paragraph-requires-clause-separators g c =
    (next_paragraph _ _ _ _ _ _ _ _ _ c.in-Some.ensures.steps.0 c.loop-number.invariant).only_last

pub explain_paragraph-requires-clause-start : goal.explain_paragraph-requires-clause-start
explain_paragraph-requires-clause-start g c =
    let next = next_paragraph _ _ _ _ _ _ _ _ _ c.in-Some.ensures.steps.0 c.loop-number.invariant in
    omega (arith, next.fits, c.requires)

pub explain_paragraph-requires-clause-small : goal.explain_paragraph-requires-clause-small
explain_paragraph-requires-clause-small g c =
    let next = next_paragraph _ _ _ _ _ _ _ _ _ c.in-Some.ensures.steps.0 c.loop-number.invariant in
    omega (arith, next.fits, c.requires)

pub overflow_add-start : goal.overflow_add-start
overflow_add-start g c =
    let next = next_paragraph _ _ _ _ _ _ _ _ _ c.in-Some.ensures.steps.0 c.loop-number.invariant in
    omega (arith, next.fits, c.requires)

pub loop-number-preserved : goal.loop-number-preserved
loop-number-preserved g c =
    let steps = c.in-Some.ensures.steps in
    let next = next_paragraph _ _ _ _ _ _ _ _ _ steps.0 c.loop-number.invariant in
    let same = same_paragraph c.args.chars.now c.args.direction _ _ _ _ _ steps.1 next.begins next.here in
    let grown = Appends-to _ _ _ _ same c.in_ok-explain_paragraph.ensures.text in
    rw steps.2 (one_more_explained _ _ _ _ _ _ _ _ _ _ steps.0 c.loop-number.invariant grown)

pub returns-clause-text : goal.returns-clause-text
returns-clause-text g c = all_explained _ _ _ _ _ _ _ c.in-None.ensures.steps.0.0 c.loop-number.invariant

pub returns-in_err-explain_paragraph-clause-fault : goal.returns-in_err-explain_paragraph-clause-fault
returns-in_err-explain_paragraph-clause-fault g c =
    let steps = c.in-Some.ensures.steps in
    let next = next_paragraph _ _ _ _ _ _ _ _ _ steps.0 c.loop-number.invariant in
    let same = same_paragraph c.args.chars.now c.args.direction _ _ _ _ _ steps.1 next.begins next.here in
    leaves_on _ _ _ _ _ c.from_residual.ensures.1
    (breaks_off _ _ _ _ _ _ _ _ _ _ _ _ steps.0 c.loop-number.invariant same c.in_err-explain_paragraph.ensures.fault)

use Rattle.std.proofs.Common.{◌∙◌, ◌+◌, arith, inl, inr, subst, sym}
use Rattle.std.proofs.lemmas.Bool.{cases_eq}
use Rattle.decoding.specs.Encodings.{IsPaired}
use Rattle.decoding.proofs.Utf16Texts.{at_end, at_next, is_some}
use Rattle.sources.proofs.splitting.check_utf16.Goals as goal

pub loop-at-preserved : goal.loop-at-preserved
loop-at-preserved c =
    let text = c.args.text.now in
    let l = c.loop-at in
    let count = l.invariant.0 in
    let found = c.char_at.result in
    let next = at_next text count l.at found.0 found.1 c.char_at.ensures.first c.char_at.ensures.following
    c.char_at.ensures.forward c.char_at.ensures.inside l.invariant.1 in (
      count + 1,
      next.later,
      λ k lt. elim (cases_eq k count) [
        | inl e ↦ subst (IsPaired text) (sym e) (λ none.
            is_some c.in-Some-default.field-0-0 (sym c.in-Some-default.is-0 ∙ sym next.spelled ∙ none))
        | inr ne ↦ l.invariant.2 k (omega (arith, lt, ne))
      ],
    )

pub returns-clause-well_formed : goal.returns-clause-well_formed
returns-clause-well_formed c k lt =
    let l = c.loop-at in
    l.invariant.2 k (omega (arith, lt, at_end c.args.text.now l.invariant.0 l.at c.loop-at-test.false l.invariant.1))

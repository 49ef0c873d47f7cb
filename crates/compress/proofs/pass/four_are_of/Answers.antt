use Rattle.std.proofs.Common.{arith, ap, sym, ◌∙◌, ◌≡◌, ◌+◌, ℕ, inl, inr, List}
use Rattle.std.specs.Prelude.{◌&&◌}
use Rattle.std.proofs.lemmas.Bool.{cases_lt}
use Rattle.units.specs.declared.bracket.Unit.{Unit as BidiUnit}
use Rattle.compress.specs.PassedSets.{has}
use Rattle.compress.proofs.Counting.{at}
use Rattle.compress.proofs.Sound.{both_parts}
use Rattle.compress.proofs.pass.four_are_of.Goals as goal

pub returns : goal.returns
returns c = λ h q a b.
    let us : List BidiUnit = c.args.para.now in
    let p : ℕ = c.args.p in
    let three = both_parts ((c.has.result && c.has-2.result) && c.has-3.result) c.has-4.result h in
    let two = both_parts (c.has.result && c.has-2.result) c.has-3.result three.0 in
    let one = both_parts c.has.result c.has-2.result two.0 in
    elim (cases_lt q (p + 1)) [
      | inl lt ↦ (let e : q ≡ p = omega arith in ap (λ i. has c.args.set (at us i).class) e ∙ sym c.has.ensures ∙ one.0)
      | inr ge ↦ elim (cases_lt q (p + 2)) [
        | inl lt ↦ (let e : q ≡ p + 1 = omega arith in ap (λ i. has c.args.set (at us i).class) e ∙ sym c.has-2.ensures ∙ one.1)
        | inr ge2 ↦ elim (cases_lt q (p + 3)) [
          | inl lt ↦ (let e : q ≡ p + 2 = omega arith in ap (λ i. has c.args.set (at us i).class) e ∙ sym c.has-3.ensures ∙ two.1)
          | inr ge3 ↦ (let e : q ≡ p + 3 = omega arith in ap (λ i. has c.args.set (at us i).class) e ∙ sym c.has-4.ensures ∙ three.1)
        ]
      ]
    ]

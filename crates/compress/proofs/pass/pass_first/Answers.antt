use Rattle.std.proofs.Common.{arith, ap, sym, ◌∙◌, ◌≡◌, ◌+◌, inl, inr}
use Rattle.std.specs.Prelude.{◌||◌}
use Rattle.std.proofs.lemmas.Bool.{cases_lt}
use Rattle.units.specs.Classes.{is_removed}
use Rattle.compress.specs.PassedSets.{has}
use Rattle.compress.specs.Squeeze.{is_bare}
use Rattle.compress.proofs.Counting.{at}
use Rattle.compress.proofs.Sound.{both_parts}
use Rattle.compress.proofs.pass.pass_first.Goals as goal

pub returns-clause-passed : goal.returns-clause-passed
returns-clause-passed g c = λ q a b.
    let us = c.args.para.now in
    let start = c.args.start in
    let first = both_parts (has c.args.set (at us start).class) (is_bare (at us start).bracket || is_removed (at us start).class) (sym c.if-not-is_passed.ensures) in
    elim (cases_lt q (start + 1)) [
      | inl lt ↦ (let e : q ≡ start = omega arith in ap (λ i. has c.args.set (at us i).class) e ∙ first.0)
      | inr ge ↦ c.pass_by_fours.ensures.passed q (omega arith) b
    ]

pub returns-clause-bare : goal.returns-clause-bare
returns-clause-bare g c = λ q a b.
    let us = c.args.para.now in
    let start = c.args.start in
    let first = both_parts (has c.args.set (at us start).class) (is_bare (at us start).bracket || is_removed (at us start).class) (sym c.if-not-is_passed.ensures) in
    elim (cases_lt q (start + 1)) [
      | inl lt ↦ (let e : q ≡ start = omega arith in ap (λ i. is_bare (at us i).bracket || is_removed (at us i).class) e ∙ first.1)
      | inr ge ↦ c.pass_by_fours.ensures.bare q (omega arith) b
    ]

use Rattle.std.proofs.Common.{arith, ap, sym, ◌∙◌, ◌≡◌, inl, inr}
use Rattle.std.specs.Prelude.{◌||◌}
use Rattle.std.proofs.lemmas.Bool.{cases_lt}
use Rattle.units.specs.Classes.{is_removed}
use Rattle.compress.specs.PassedSets.{has}
use Rattle.compress.specs.Squeeze.{is_bare}
use Rattle.compress.proofs.Counting.{at}
use Rattle.compress.proofs.Sound.{both_parts}
use Rattle.compress.proofs.pass.pass_singly.Goals as goal

pub loop-p-preserved : goal.loop-p-preserved
loop-p-preserved g c =
    let us = c.args.para.now in
    let l = c.loop-p in
    let here = both_parts (has c.args.set (at us l.p).class) (is_bare (at us l.p).bracket || is_removed (at us l.p).class)
    (sym c.is_passed.ensures ∙ c.if-is_passed.true) in
    record {
      from_start = omega (arith, l.invariant.from_start);
      within = omega (arith, c.loop-p-test.true);
      passed = λ q a b. elim (cases_lt q l.p) [
        | inl lt ↦ l.invariant.passed q a lt
        | inr ge ↦ (let e : q ≡ l.p = omega arith in ap (λ i. has c.args.set (at us i).class) e ∙ here.0)
      ];
      bare = λ q a b. elim (cases_lt q l.p) [
        | inl lt ↦ l.invariant.bare q a lt
        | inr ge ↦ (let e : q ≡ l.p = omega arith in ap (λ i. is_bare (at us i).bracket || is_removed (at us i).class) e ∙ here.1)
      ];
      steps = omega (arith, l.invariant.steps, c.tick.ensures);
    }

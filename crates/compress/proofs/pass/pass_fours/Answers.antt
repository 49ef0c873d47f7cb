use Rattle.std.proofs.Common.{arith, ◌+◌, refl, inl, inr, List}
use Rattle.std.proofs.lemmas.Bool.{cases_lt}
use Rattle.units.specs.Classes.{is_removed}
use Rattle.units.specs.declared.bracket.Unit.{Unit as BidiUnit}
use Rattle.compress.specs.Squeeze.{is_bare}
use Rattle.compress.proofs.Counting.{at}
use Rattle.compress.proofs.Passing.{or_first}
use Rattle.compress.proofs.pass.pass_fours.Goals as goal

pub loop-p-preserved : goal.loop-p-preserved
loop-p-preserved g c =
    let us : List BidiUnit = c.args.para.now in
    let l = c.loop-p in
    let one = c.four_pass.ensures in
    let two = c.if-not-four_pass.ensures in
    record {
      from_start = omega (arith, l.invariant.from_start);
      within = omega (arith, c.loop-p-test.true);
      passed = λ q a b. elim (cases_lt q l.p) [
        | inl lt ↦ l.invariant.passed q a lt
        | inr ge ↦ elim (cases_lt q (l.p + 4)) [
          | inl lt ↦ one.classes c.if-four_pass.true q ge lt
          | inr far ↦ two.classes refl q far (omega (arith, b))
        ]
      ];
      bare = λ q a b. elim (cases_lt q l.p) [
        | inl lt ↦ l.invariant.bare q a lt
        | inr ge ↦ or_first (is_bare (at us q).bracket) (is_removed (at us q).class) (elim (cases_lt q (l.p + 4)) [
          | inl lt ↦ one.bare c.if-four_pass.true q ge lt
          | inr far ↦ two.bare refl q far (omega (arith, b))
        ])
      ];
      steps = omega (arith, l.invariant.steps, c.add-in-loop-p.ensures);
    }

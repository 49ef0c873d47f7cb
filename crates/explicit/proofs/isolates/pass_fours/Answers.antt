use Rattle.std.proofs.Common.{◌≤◌, length, arith, ap, refl, sym, ◌∙◌}
use Rattle.std.proofs.lemmas.Bool.{true≢false}
use Rattle.units.specs.Classes.{classes_of}
use Rattle.explicit.proofs.Matched.Stops.{cleared_joined, cleared_length, cleared_none, no_formatting_both}
use Rattle.explicit.proofs.isolates.pass_fours.Goals as goal

pub loop-partners-init : goal.loop-partners-init
loop-partners-init g c = record {
  later = omega arith;
  within = omega (arith, c.requires.from);
  passed = λ p low high. absurd (omega arith);
  seeks = λ _. refl;
  room = refl;
  cleared = sym (cleared_none c.args.from c.args.partners.now);
  taken = omega arith;
}

pub returns-then-end-p-clause-partners : goal.returns-then-end-p-clause-partners
returns-then-end-p-clause-partners g c =
    let l = c.loop-partners in
    let end = c.pass_eight-end in
    let high = end.ensures.later in
    cleared_joined c.args.from l.p end.result c.args.partners.now l.partners end.new.partners l.invariant.later
    (omega (arith, high)) l.invariant.cleared end.ensures.partners

pub loop-partners-preserved : goal.loop-partners-preserved
loop-partners-preserved g c =
    let l = c.loop-partners in
    let end = c.pass_eight-end in
    let low : c.args.from ≤ l.p = l.invariant.later in
    let high = end.ensures.later in
    let within = end.ensures.within in
    record {
      later = omega (arith, high);
      within = omega (arith, within);
      passed = no_formatting_both (classes_of c.args.para.now) c.args.from l.p end.result l.invariant.passed
          end.ensures.passed;
      seeks = λ e. absurd (true≢false (sym e ∙ c.loop-partners-test.true));
      room = ap length end.ensures.partners ∙ cleared_length l.p end.result l.partners ∙ l.invariant.room;
      cleared = cleared_joined c.args.from l.p end.result c.args.partners.now l.partners end.new.partners low
          (omega (arith, high)) l.invariant.cleared end.ensures.partners;
      taken = omega (arith, end.ensures.steps, l.invariant.taken);
    }

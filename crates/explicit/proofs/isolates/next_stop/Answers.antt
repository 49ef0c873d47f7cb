use Rattle.std.proofs.Common.{◌≡◌, ◌<◌, ◌≤◌, ℕ, List, None, length, set, true, arith, ap, sym, subst, ◌∙◌, inl, inr}
use Rattle.std.specs.Prelude.{Option}
use Rattle.std.proofs.lemmas.Bool.{cases_eq}
use Rattle.std.proofs.lemmas.List.{length-set}
use Rattle.units.specs.Classes.{class_at, classes_of}
use Rattle.units.specs.declared.class.Class.{Class}
use Rattle.explicit.specs.Stops.{is_passed}
use Rattle.explicit.proofs.Holders.Roles.{class_read}
use Rattle.explicit.proofs.Matched.Stops.{cleared_length, cleared_next, passed_by_fours}
use Rattle.explicit.proofs.isolates.next_stop.Goals as goal

pub loop-p-init : goal.loop-p-init
loop-p-init g c = record {
  later = omega (arith, c.pass_fours-p.ensures.later);
  within = c.pass_fours-p.ensures.within;
  passed = passed_by_fours c.args.wanted (classes_of c.args.para.now) c.args.from c.pass_fours-p.result
      c.pass_fours-p.ensures.passed c.pass_fours-p.ensures.seeks;
  room = ap length c.pass_fours-p.ensures.partners ∙
      cleared_length c.args.from c.pass_fours-p.result c.args.partners.now;
  cleared = c.pass_fours-p.ensures.partners;
  taken = omega (arith, c.pass_fours-p.ensures.steps);
}

pub loop-p-preserved : goal.loop-p-preserved
loop-p-preserved g c =
    let l = c.loop-p in
    let low : c.args.from ≤ l.p = l.invariant.later in
    let cs : List Class = classes_of c.args.para.now in
    let inside : l.p < length c.args.para.now = omega arith in
    let here : is_passed c.args.wanted (class_at cs l.p) ≡ true =
    ap (is_passed c.args.wanted) (class_read c.args.para.now l.p _ inside) ∙ sym c.is_passed.ensures ∙
    c.if-is_passed.true in
    record {
      later = omega arith;
      within = omega arith;
      passed = λ k from to. elim (cases_eq k l.p) [
        | inl e ↦ subst (λ (q : ℕ). is_passed c.args.wanted (class_at cs q) ≡ true) (sym e) here
        | inr ne ↦ l.invariant.passed k from (omega arith)
      ];
      room = length-set _ _ _ ∙ l.invariant.room;
      cleared = rw c.none.ensures (ap (λ (xs : List (Option ℕ)). set xs l.p None) l.invariant.cleared ∙
          cleared_next c.args.from l.p c.args.partners.now low);
      taken = omega (arith, c.tick.ensures, l.invariant.taken);
    }

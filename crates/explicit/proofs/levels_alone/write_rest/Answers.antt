use Rattle.std.proofs.Common.{◌≡◌, ◌<◌, ◌≤◌, ℕ, List, length, set, true, arith, refl, sym, ap, ◌∙◌, subst, inl, inr}
use Rattle.std.specs.Prelude.{Option, Some}
use Rattle.std.proofs.lemmas.Bool.{cases_eq}
use Rattle.std.proofs.lemmas.List.{length-set}
use Rattle.units.specs.Classes.{class_at, classes_of}
use Rattle.units.specs.declared.class.Class.{Class}
use Rattle.explicit.specs.StatusStacks.{is_ordinary}
use Rattle.explicit.proofs.Holders.Roles.{class_read}
use Rattle.explicit.proofs.LevelsComputed.Alone.{alone-next, alone-none}
use Rattle.explicit.proofs.levels_alone.write_rest.Goals as goal

pub loop-p-init : goal.loop-p-init
loop-p-init g c = record {
  later = omega arith;
  within = omega (arith, c.requires.from);
  passed = λ k from to. absurd (omega arith);
  room = refl;
  placed = sym (alone-none c.args.level c.args.from c.args.levels.now);
  taken = omega arith;
}

pub loop-p-preserved : goal.loop-p-preserved
loop-p-preserved g c =
    let l = c.loop-p in
    let cs : List Class = classes_of c.args.para.now in
    let inside : l.p < length c.args.para.now = omega arith in
    let low : c.args.from ≤ l.p = l.invariant.later in
    let ordinary : is_ordinary (class_at cs l.p) ≡ true =
    ap is_ordinary (class_read c.args.para.now l.p _ inside) ∙ sym c.is_ordinary.ensures ∙ c.if-is_ordinary.true in
    record {
      later = omega arith;
      within = omega arith;
      passed = λ k from to. elim (cases_eq k l.p) [
        | inl e ↦ subst (λ (q : ℕ). is_ordinary (class_at cs q) ≡ true) (sym e) ordinary
        | inr ne ↦ l.invariant.passed k from (omega arith)
      ];
      room = length-set l.levels l.p (Some c.args.level) ∙ l.invariant.room;
      placed = ap (λ (xs : List (Option ℕ)). set xs l.p (Some c.args.level)) l.invariant.placed
          ∙ alone-next c.args.level c.args.from l.p c.args.levels.now low;
      taken = omega (arith, c.tick.ensures, l.invariant.taken);
    }

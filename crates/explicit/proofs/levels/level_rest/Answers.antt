use Rattle.std.proofs.Common.{◌≡◌, ◌<◌, ◌≤◌, ℕ, List, length, set, true, arith, sym, ap, ◌∙◌, subst, inl, inr}
use Rattle.std.specs.Prelude.{Option, Some}
use Rattle.std.proofs.lemmas.Bool.{cases_eq}
use Rattle.units.specs.Classes.{class_at, classes_of}
use Rattle.units.specs.declared.class.Class.{Class}
use Rattle.explicit.specs.StatusStacks.{is_ordinary}
use Rattle.explicit.specs.Stretches.{leveled_by_status, with_leveled}
use Rattle.explicit.proofs.Holders.Roles.{class_read}
use Rattle.explicit.proofs.LevelsComputed.Stretches.{explicit-next, explicit-none}
use Rattle.explicit.proofs.levels.level_rest.Goals as goal

pub loop-p-init : goal.loop-p-init
loop-p-init g c = record {
  later = omega arith;
  within = omega (arith, c.requires.from);
  passed = λ k from to. absurd (omega arith);
  placed = sym (explicit-none c.args.status.now (classes_of c.args.para.now) c.args.from c.args.explicit.now);
  taken = omega arith;
}

pub loop-p-preserved : goal.loop-p-preserved
loop-p-preserved g c =
    let l = c.loop-p in
    let cs : List Class = classes_of c.args.para.now in
    let inside : l.p < length c.args.para.now = omega arith in
    let low : c.args.from ≤ l.p = l.invariant.later in
    let read = class_read c.args.para.now l.p _ inside in
    let ordinary : is_ordinary (class_at cs l.p) ≡ true = ap is_ordinary read ∙ sym c.is_ordinary.ensures ∙
    c.if-is_ordinary.true in
    record {
      later = omega arith;
      within = omega arith;
      passed = λ k from to. elim (cases_eq k l.p) [
        | inl e ↦ subst (λ (q : ℕ). is_ordinary (class_at cs q) ≡ true) (sym e) ordinary
        | inr ne ↦ l.invariant.passed k from (omega arith)
      ];
      placed = ap (λ (xs : List (Option (ℕ × Class))). set xs l.p c.some.result) l.invariant.placed
          ∙ ap (λ (x : Option (ℕ × Class)).
          set (with_leveled c.args.status.now cs c.args.from l.p c.args.explicit.now) l.p x) (c.some.ensures ∙
          ap (λ (x : ℕ × Class). Some x) (c.leveled-level.ensures ∙
          ap (leveled_by_status c.args.status.now) (sym read)))
          ∙ explicit-next c.args.status.now cs c.args.from l.p c.args.explicit.now low;
      taken = omega (arith, c.tick.ensures, l.invariant.taken);
    }

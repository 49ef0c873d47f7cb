use Rattle.std.proofs.Common.{◌≡◌, ◌+◌, ℕ, List, true, arith, ap, subst, sym, ◌∙◌}
use Rattle.units.specs.Classes.{class_at, classes_of}
use Rattle.units.specs.declared.class.Class.{Class}
use Rattle.explicit.specs.StatusStacks.{is_ordinary}
use Rattle.explicit.specs.Stretches.{IsStretchWithin}
use Rattle.explicit.proofs.Holders.Roles.{class_read}
use Rattle.explicit.proofs.LevelsComputed.Stretches.{stretch-joined, stretch-one}
use Rattle.explicit.proofs.levels_alone.are_two_ordinary.Goals as goal

pub returns-then-is_ordinary : goal.returns-then-is_ordinary
returns-then-is_ordinary c second =
    let cs : List Class = classes_of c.args.para.now in
    let p : ℕ = c.args.p in
    let one : is_ordinary (class_at cs p) ≡ true =
    ap is_ordinary (class_read c.args.para.now p _ (omega arith)) ∙ sym c.is_ordinary.ensures ∙ c.if-is_ordinary.true in
    let two : is_ordinary (class_at cs (p + 1)) ≡ true =
    ap is_ordinary (class_read c.args.para.now (p + 1) _ (omega arith)) ∙
    sym c.is_ordinary-then-is_ordinary.ensures ∙ second in
    let end : p + 1 + 1 ≡ p + 2 = omega arith in
    stretch-joined is_ordinary cs p (p + 1) (p + 2) (p + 2) (stretch-one is_ordinary cs p one)
    (subst (λ (q : ℕ). IsStretchWithin is_ordinary cs (p + 1) q q) end (stretch-one is_ordinary cs (p + 1) two))

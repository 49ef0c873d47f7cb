use Rattle.std.proofs.Common.{◌≡◌, ◌+◌, List, set, arith, sym, ap, ◌∙◌}
use Rattle.std.specs.Prelude.{Option, Some, ℕ}
use Rattle.units.specs.Classes.{class_at, classes_of}
use Rattle.units.specs.declared.class.Class.{Class}
use Rattle.explicit.specs.StatusStacks.{is_ordinary}
use Rattle.explicit.specs.Stretches.{leveled_by_status}
use Rattle.explicit.proofs.Holders.Roles.{class_read}
use Rattle.explicit.proofs.LevelsComputed.Stretches.{explicit-next, explicit-none, stretch-fails, stretch-one}
use Rattle.explicit.proofs.levels.level_one.Goals as goal

pub returns-then-not-is_ordinary-clause-stretch : goal.returns-then-not-is_ordinary-clause-stretch
returns-then-not-is_ordinary-clause-stretch g c =
    let cs : List Class = classes_of c.args.para.now in
    let read = class_read c.args.para.now c.args.p _ c.requires.inside in
    stretch-fails is_ordinary cs c.args.p (c.args.p + 1) (omega arith)
    (ap is_ordinary read ∙ sym c.is_ordinary.ensures ∙ c.if-not-is_ordinary.true)

pub returns-then-not-is_ordinary-clause-explicit : goal.returns-then-not-is_ordinary-clause-explicit
returns-then-not-is_ordinary-clause-explicit g c =
    sym (explicit-none c.args.status.now (classes_of c.args.para.now) c.args.p c.args.explicit.now)

pub returns-clause-stretch : goal.returns-clause-stretch
returns-clause-stretch g c =
    let cs : List Class = classes_of c.args.para.now in
    let read = class_read c.args.para.now c.args.p _ c.requires.inside in
    stretch-one is_ordinary cs c.args.p
    (ap is_ordinary read ∙ sym c.is_ordinary.ensures ∙ c.if-not-is_ordinary.false)

pub returns-clause-explicit : goal.returns-clause-explicit
returns-clause-explicit g c =
    let cs : List Class = classes_of c.args.para.now in
    let p : ℕ = c.args.p in
    let old : List (Option (ℕ × Class)) = c.args.explicit.now in
    let read = class_read c.args.para.now p _ c.requires.inside in
    let written : c.some.result ≡ Some (leveled_by_status c.args.status.now (class_at cs p)) = c.some.ensures ∙
    ap (λ (x : ℕ × Class). Some x) (c.leveled-level.ensures ∙ ap (leveled_by_status c.args.status.now) (sym read)) in
    ap (λ (x : Option (ℕ × Class)). set old p x) written
    ∙ sym (ap (λ (xs : List (Option (ℕ × Class))). set xs p (Some (leveled_by_status c.args.status.now (class_at cs p))))
    (explicit-none c.args.status.now cs p old))
    ∙ explicit-next c.args.status.now cs p p old (omega arith)

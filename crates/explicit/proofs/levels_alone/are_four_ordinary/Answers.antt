use Rattle.std.proofs.Common.{◌≡◌, ◌+◌, ℕ, List, arith, subst}
use Rattle.units.specs.Classes.{classes_of}
use Rattle.units.specs.declared.class.Class.{Class}
use Rattle.explicit.specs.StatusStacks.{is_ordinary}
use Rattle.explicit.specs.Stretches.{IsStretchWithin}
use Rattle.explicit.proofs.LevelsComputed.Stretches.{stretch-joined}
use Rattle.explicit.proofs.levels_alone.are_four_ordinary.Goals as goal

pub returns-then-are_two_ordinary : goal.returns-then-are_two_ordinary
returns-then-are_two_ordinary c second =
    let cs : List Class = classes_of c.args.para.now in
    let p : ℕ = c.args.p in
    let end : p + 2 + 2 ≡ p + 4 = omega arith in
    stretch-joined is_ordinary cs p (p + 2) (p + 4) (p + 4)
    (c.are_two_ordinary.ensures c.if-are_two_ordinary.true)
    (subst (λ (q : ℕ). IsStretchWithin is_ordinary cs (p + 2) q q) end
    (c.are_two_ordinary-then-are_two_ordinary.ensures second))

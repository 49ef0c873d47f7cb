use Rattle.std.proofs.Common.{◌≡◌, ◌+◌, ℕ, List, arith, subst}
use Rattle.units.specs.Classes.{classes_of}
use Rattle.units.specs.declared.class.Class.{Class}
use Rattle.explicit.specs.StatusStacks.{is_ordinary}
use Rattle.explicit.specs.Stretches.{IsStretchWithin}
use Rattle.explicit.proofs.LevelsComputed.Stretches.{stretch-joined}
use Rattle.explicit.proofs.levels_alone.are_eight_ordinary.Goals as goal

pub returns-then-are_four_ordinary : goal.returns-then-are_four_ordinary
returns-then-are_four_ordinary c second =
    let cs : List Class = classes_of c.args.para.now in
    let p : ℕ = c.args.p in
    let end : p + 4 + 4 ≡ p + 8 = omega arith in
    stretch-joined is_ordinary cs p (p + 4) (p + 8) (p + 8)
    (c.are_four_ordinary.ensures c.if-are_four_ordinary.true)
    (subst (λ (q : ℕ). IsStretchWithin is_ordinary cs (p + 4) q q) end
    (c.are_four_ordinary-then-are_four_ordinary.ensures second))

use Rattle.std.proofs.Common.{arith, sym, ◌∙◌}
use Rattle.units.specs.Classes.{classes_of}
use Rattle.paragraph.proofs.LeftToRight.{keeping, keeps_explicit_levels, level_zero, none_right_to_left}
use Rattle.paragraph.proofs.left_to_right.resolve_left_to_right.Goals as goal

pub explicit_levels_alone-requires-clause-none : goal.explicit_levels_alone-requires-clause-none
explicit_levels_alone-requires-clause-none g c =
    let k = keeping c.args.direction (classes_of c.args.para.now) c.requires.keeps in
    none_right_to_left (classes_of c.args.para.now) k.none

pub returns-clause-para_level : goal.returns-clause-para_level
returns-clause-para_level g c =
    let k = keeping c.args.direction (classes_of c.args.para.now) c.requires.keeps in
    level_zero (classes_of c.args.para.now) k.none c.args.direction k.begins

pub returns-clause-levels : goal.returns-clause-levels
returns-clause-levels g c =
    let k = keeping c.args.direction (classes_of c.args.para.now) c.requires.keeps in
    c.explicit_levels_alone.ensures.levels
    ∙ sym (keeps_explicit_levels c.args.limits (omega arith) c.args.para.now c.requires.separators k.none)

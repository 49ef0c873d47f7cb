use Rattle.std.proofs.Common.{ℕ, List, ap, sym, ◌∙◌}
use Rattle.std.proofs.lemmas.List.{length-map}
use Rattle.units.specs.Classes.{classes_of}
use Rattle.units.specs.Runs.{leveled_of}
use Rattle.units.specs.declared.class.Class.{Class}
use Rattle.explicit.proofs.LevelsComputed.Alone.{alone-are}
use Rattle.explicit.proofs.levels_alone.explicit_levels_alone.Goals as goal

pub returns-clause-levels : goal.returns-clause-levels
returns-clause-levels g c =
    let cs : List Class = classes_of c.args.para.now in
    alone-are c.depth.result cs c.level.result c.write_levels.new.levels c.write_levels.ensures.levels
    (c.write_levels.ensures.room ∙ sym (length-map c.args.para.now (λ u. u.class)))
    ∙ ap (λ (depth : ℕ). (leveled_of depth cs c.level.result).levels) c.depth.ensures.value
    ∙ ap (λ (base : ℕ). (leveled_of c.args.limits.depth cs base).levels) c.level.ensures.value

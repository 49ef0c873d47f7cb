use Rattle.std.proofs.Common.{ap, ◌∙◌}
use Rattle.units.specs.Classes.{classes_of}
use Rattle.explicit.specs.SideLevels.{level_under}
use Rattle.explicit.proofs.StrongSides.LevelUnder.{level_under-is}
use Rattle.explicit.proofs.para_level.para_level.Goals as goal

pub returns-clause-level : goal.returns-clause-level
returns-clause-level g c =
    c.level_under.ensures ∙ ap (level_under c.args.direction) (c.outside.ensures ∙ c.requires.outside) ∙
    level_under-is (classes_of c.args.para.now) c.args.direction

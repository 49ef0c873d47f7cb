use Rattle.units.specs.Classes.{classes_of}
use Rattle.explicit.proofs.LevelsComputed.Stretches.{explicit-joined}
use Rattle.explicit.proofs.levels.level_four.Goals as goal

pub returns-clause-explicit : goal.returns-clause-explicit
returns-clause-explicit g c =
    explicit-joined c.args.status.now (classes_of c.args.para.now) c.args.p c.level_two-middle.result c.level_two.result
    c.args.explicit.now c.level_two-middle.new.explicit c.level_two.new.explicit
    c.level_two-middle.ensures.stretch.later c.level_two.ensures.stretch.later
    c.level_two-middle.ensures.explicit c.level_two.ensures.explicit

use Rattle.units.specs.Classes.{classes_of}
use Rattle.explicit.proofs.LevelsComputed.Stretches.{explicit-joined}
use Rattle.explicit.proofs.levels.level_two.Goals as goal

pub returns-clause-explicit : goal.returns-clause-explicit
returns-clause-explicit g c =
    explicit-joined c.args.status.now (classes_of c.args.para.now) c.args.p c.level_one-middle.result c.level_one.result
    c.args.explicit.now c.level_one-middle.new.explicit c.level_one.new.explicit
    c.level_one-middle.ensures.stretch.later c.level_one.ensures.stretch.later
    c.level_one-middle.ensures.explicit c.level_one.ensures.explicit

use Rattle.units.specs.Classes.{classes_of}
use Rattle.explicit.proofs.LevelsComputed.Stretches.{explicit-joined}
use Rattle.explicit.proofs.levels.level_eight.Goals as goal

pub returns-clause-explicit : goal.returns-clause-explicit
returns-clause-explicit g c =
    explicit-joined c.args.status.now (classes_of c.args.para.now) c.args.p c.level_four-middle.result c.level_four.result
    c.args.explicit.now c.level_four-middle.new.explicit c.level_four.new.explicit
    c.level_four-middle.ensures.stretch.later c.level_four.ensures.stretch.later
    c.level_four-middle.ensures.explicit c.level_four.ensures.explicit

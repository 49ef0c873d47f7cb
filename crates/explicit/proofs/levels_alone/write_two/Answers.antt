use Rattle.explicit.proofs.LevelsComputed.Alone.{alone-two}
use Rattle.explicit.proofs.levels_alone.write_two.Goals as goal

pub returns : goal.returns
returns c = alone-two c.args.level c.args.p c.args.levels.now

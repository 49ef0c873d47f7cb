use Rattle.std.specs.Prelude.{map}
use Rattle.units.specs.Classes.{classes_of}
use Rattle.units.specs.Isolates.{level_of_para}
use Rattle.lines.proofs.UnchangedLevels.{levels_unchanged}
use Rattle.lines.proofs.theorems.reset_theorem.Goals as goal

pub returns : goal.returns
returns c = levels_unchanged (classes_of c.args.own.now) c.args.breaks.now.positions
    (map level_of_para c.args.paras.now) c.args.levels.now c.requires

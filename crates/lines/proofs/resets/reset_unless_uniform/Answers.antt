use Rattle.std.specs.Prelude.{map}
use Rattle.std.proofs.Common.{sym}
use Rattle.units.specs.Classes.{classes_of}
use Rattle.units.specs.Isolates.{level_of_para}
use Rattle.lines.proofs.UnchangedLevels.{levels_unchanged}
use Rattle.lines.proofs.resets.reset_unless_uniform.Goals as goal

pub returns-then-resolved-clause-levels : goal.returns-then-resolved-clause-levels
returns-then-resolved-clause-levels g c =
    sym (levels_unchanged (classes_of c.args.text.units.now) c.args.breaks.now.positions
    (map level_of_para c.args.text.paras.now) c.args.levels.now (c.requires.uniform c.if-resolved.true))

use Rattle.std.proofs.Common.{arith}
use Rattle.paragraph.proofs.KnownLevels.{level_more}
use Rattle.paragraph.proofs.fast_paths.write_level_at.Goals as goal

pub returns-clause-levels : goal.returns-clause-levels
returns-clause-levels c =
    level_more c.args.para.now c.args.p c.args.level c.args.levels.now _ c.requires.inside (omega arith)
    c.level_unless_removed_at.ensures c.requires.before

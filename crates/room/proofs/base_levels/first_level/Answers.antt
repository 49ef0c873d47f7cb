use Rattle.std.proofs.Common.{◌∙◌, ap}
use Rattle.units.specs.Classes.{classes_of}
use Rattle.explicit.proofs.StrongSides.LevelUnder.{level_under-is}
use Rattle.explicit.specs.SideLevels.{level_under}
use Rattle.room.specs.BaseLevels.{first_paragraph}
use Rattle.sources.specs.Seen.{source_seen}
use Rattle.sources.specs.Sources.{units_of}
use Rattle.room.proofs.base_levels.first_level.Goals as goal

pub returns-clause-level : goal.returns-clause-level
returns-clause-level g c =
    let units = units_of c.args.tables.now (source_seen c.args.source) in
    c.level_under.ensures ∙ ap (level_under c.args.direction) c.first_side.ensures.side ∙
    level_under-is (classes_of (first_paragraph units)) c.args.direction

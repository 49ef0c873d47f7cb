use Rattle.std.proofs.Common.{◌≡◌, ◌<◌, ◌∙◌, List, arith, length}
use Rattle.units.specs.Paragraphs.{paragraphs_of}
use Rattle.units.specs.declared.bracket.Unit.{Unit as BidiUnit}
use Rattle.sources.specs.Seen.{source_seen}
use Rattle.sources.specs.Sources.{units_of}
use Rattle.room.specs.BaseLevels.{base_level}
use Rattle.room.proofs.BaseParagraphs.{level_more, rest_is_not_empty}
use Rattle.room.proofs.base_levels.fill_base_levels.Goals as goal

pub loop-k-preserved : goal.loop-k-preserved
loop-k-preserved c =
    let l = c.loop-k in
    let direction = c.args.direction in
    let all : List BidiUnit = units_of c.args.tables.now (source_seen c.args.source) in
    let units : List BidiUnit = units_of c.args.tables.now (source_seen l.rest) in
    let rest : List BidiUnit = units_of c.args.tables.now (source_seen c.after_paragraph-rest.result) in
    let place : l.k < length l.levels = omega (arith, l.auto.levels) in
    let long : length l.levels ≡ length (paragraphs_of all) = omega (arith, l.auto.levels, c.requires.items) in
    let some : 0 < length units = rest_is_not_empty all units direction l.levels l.k place long l.invariant.written in
    let level : c.get.result ≡ base_level units direction = c.get.ensures.value ∙ c.level.ensures.value ∙
    c.level_of_first.ensures in
    record {
      well_formed = c.after_paragraph-rest.ensures.well_formed;
      written = level_more units rest some c.after_paragraph-rest.ensures.units direction l.levels _ l.k c.get.result
          place level l.invariant.written;
    }

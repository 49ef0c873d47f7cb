use Rattle.std.proofs.Common.{arith}
use Rattle.sources.specs.Seen.{source_seen}
use Rattle.sources.specs.Sources.{units_of}
use Rattle.room.proofs.BaseParagraphs.{counted_more}
use Rattle.room.proofs.base_levels.paragraph_count.Goals as goal

pub loop-after-preserved : goal.loop-after-preserved
loop-after-preserved c =
    let l = c.loop-after in
    let next = c.in-Some.ensures in
    record {
      well_formed = next.after.well_formed;
      few = omega (arith, next.shorter, l.invariant.few);
      counted = counted_more (units_of c.args.tables.now (source_seen l.rest))
          (units_of c.args.tables.now (source_seen c.in-Some.after)) next.some next.after.units l.count _
          l.invariant.counted;
    }

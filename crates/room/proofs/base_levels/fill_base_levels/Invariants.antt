use Rattle.std.proofs.Common.{◌≡◌, ◌++◌, take}
use Rattle.units.specs.Layout.{para_levels_of}
use Rattle.sources.specs.Seen.{source_seen}
use Rattle.sources.specs.Sources.{IsWellFormed, units_of}
use Rattle.room.proofs.base_levels.fill_base_levels.Given as goal

-- the levels of the paragraphs before the rest are written
abbrev pub invariant-loop-k : goal.invariant-loop-k
invariant-loop-k l = record {
  well_formed : IsWellFormed (source_seen l.rest);
  written : take l.k l.levels ++ para_levels_of (units_of l.tables (source_seen l.rest)) l.direction ≡
      para_levels_of (units_of l.tables (source_seen l.source)) l.direction;
}

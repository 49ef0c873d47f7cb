use Rattle.std.proofs.Common.{◌≡◌, ◌≤◌, ◌+◌, length}
use Rattle.units.specs.Paragraphs.{paragraphs_of}
use Rattle.sources.specs.Seen.{source_seen}
use Rattle.sources.specs.Sources.{IsWellFormed, size_of, units_of}
use Rattle.room.proofs.base_levels.paragraph_count.Given as goal

-- the paragraphs before the rest are counted
abbrev pub invariant-loop-after : goal.invariant-loop-after
invariant-loop-after l = record {
  well_formed : IsWellFormed (source_seen l.rest);
  few : l.count + size_of (source_seen l.rest) ≤ size_of (source_seen l.source);
  counted : l.count + length (paragraphs_of (units_of l.tables (source_seen l.rest))) ≡
      length (paragraphs_of (units_of l.tables (source_seen l.source)));
}

abbrev pub decreases-loop-after : goal.decreases-loop-after
decreases-loop-after l = size_of (source_seen l.rest)

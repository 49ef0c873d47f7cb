use Rattle.std.proofs.Common.{◌≡◌, ◌≤◌, ◌+◌}
use Rattle.explicit.specs.FirstParagraph.{first_length}
use Rattle.room.specs.BaseLevels.{first_side}
use Rattle.sources.specs.Seen.{source_seen}
use Rattle.sources.specs.Sources.{IsWellFormed, size_of, units_of}
use Rattle.room.proofs.BaseReads.{read_from}
use Rattle.room.proofs.BaseSides.{side_from}
use Rattle.room.proofs.base_levels.first_side.Given as goal

-- no separator and no strong class outside of isolates is before the rest; no more isolates are open than there are
-- units before it, and no more steps were taken; the steps and the rest of the paragraph are no more than the
-- paragraph, and the steps and those for the units that are still read are those for all
abbrev pub invariant-loop-unit : goal.invariant-loop-unit
invariant-loop-unit g l = record {
  well_formed : IsWellFormed (source_seen l.rest);
  deep : l.depth + size_of (source_seen l.rest) ≤ size_of (source_seen l.source);
  steps : l.steps + size_of (source_seen l.rest) ≤ l.initial.steps + size_of (source_seen l.source);
  paragraph : l.steps + first_length (units_of l.tables (source_seen l.rest)) ≤
      l.initial.steps + first_length (units_of l.tables (source_seen l.source));
  read : l.steps + read_from (units_of l.tables (source_seen l.rest)) l.depth ≡
      l.initial.steps + read_from (units_of l.tables (source_seen l.source)) 0;
  found : first_side (units_of l.tables (source_seen l.source)) ≡
      side_from (units_of l.tables (source_seen l.rest)) l.depth;
}

abbrev pub decreases-loop-unit : goal.decreases-loop-unit
decreases-loop-unit g l = size_of (source_seen l.rest)

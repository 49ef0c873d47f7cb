use Rattle.std.proofs.Common.{◌≡◌, ◌≤◌, drop}
use Rattle.explicit.specs.FirstParagraph.{first_length}
use Rattle.sources.specs.Seen.{source_seen}
use Rattle.sources.specs.Sources.{IsWellFormed, size_of, units_of}
use Rattle.room.proofs.base_levels.after_paragraph.Given as goal

-- no separator is before the rest
abbrev pub invariant-loop-unit : goal.invariant-loop-unit
invariant-loop-unit l = record {
  well_formed : IsWellFormed (source_seen l.rest);
  units : drop (first_length (units_of l.tables (source_seen l.rest))) (units_of l.tables (source_seen l.rest)) ≡
      drop (first_length (units_of l.tables (source_seen l.source))) (units_of l.tables (source_seen l.source));
  size : size_of (source_seen l.rest) ≤ size_of (source_seen l.source);
}

abbrev pub decreases-loop-unit : goal.decreases-loop-unit
decreases-loop-unit l = size_of (source_seen l.rest)

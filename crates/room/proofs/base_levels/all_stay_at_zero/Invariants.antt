use Rattle.std.proofs.Common.{◌≡◌}
use Rattle.units.specs.Classes.{classes_of}
use Rattle.room.specs.StaysAtZero.{all_stay_at_zero}
use Rattle.sources.specs.Seen.{source_seen}
use Rattle.sources.specs.Sources.{IsWellFormed, size_of, units_of}
use Rattle.room.proofs.base_levels.all_stay_at_zero.Given as goal

-- the classes before the rest stay at level 0
abbrev pub invariant-loop-unit : goal.invariant-loop-unit
invariant-loop-unit l = record {
  well_formed : IsWellFormed (source_seen l.rest);
  stay : all_stay_at_zero (classes_of (units_of l.tables (source_seen l.source))) ≡
      all_stay_at_zero (classes_of (units_of l.tables (source_seen l.rest)));
}

abbrev pub decreases-loop-unit : goal.decreases-loop-unit
decreases-loop-unit l = size_of (source_seen l.rest)

-- The state that a judge carries consists of the contents of its reader of lines and the counts.
use Rattle.std.proofs.Common.{◌≡◌, ℕ, List, refl, ap, ◌∙◌}
use Rattle.std.specs.Prelude.{Result, Ok, Err, OnOk}
use Rattle.bidtests.specs.ClassesFile.{ClassesLine}
use Rattle.units.specs.Limits.{LimitsOf}
use Rattle.bidtests.specs.declared.kind.Kind.{Kind}
use Rattle.bidtests.specs.declared.kind.Kind.TheVariants.{Classes, Characters}
use Rattle.bidtests.specs.Carried.{Carried, comes_to_after, levels_after, order_after}
use Rattle.bidtests.specs.LineReadings.{LineReading, HasListed, levels_in, order_in, finding_after}

-- the state with these contents of the reader
abbrev pub carried_by : LimitsOf → ℕ → ℕ → LineReading → Carried
carried_by limits rows cases reading = record {
  limits = limits;
  levels = levels_in reading;
  order = order_in reading;
  rows = rows;
  cases = cases;
}

pub comes-alike : (kind : Kind) (limits : LimitsOf) (rows cases : ℕ) (reading : LineReading) (line : List ℕ)
    → comes_to_after kind (carried_by limits rows cases reading) line ≡ finding_after kind reading line
comes-alike Classes limits rows cases reading line = refl
comes-alike (Characters tables) limits rows cases reading line = refl

-- the lists change alike after a state with the same lists in force
pub listed-as : {A E : Type 0} (r : Result A E) (noted : ClassesLine) (before old new : LineReading) →
    levels_in before ≡ levels_in old → order_in before ≡ order_in old → OnOk r (HasListed noted before new)
    → OnOk r (HasListed noted old new)
listed-as (Ok x) noted before old new levels order h = record {
  levels = h.levels ∙ ap (levels_after noted) levels;
  order = h.order ∙ ap (order_after noted) order;
}
listed-as (Err e) noted before old new levels order h = tt

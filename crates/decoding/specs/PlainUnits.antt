-- Units without brackets.
use Rattle.std.specs.Prelude.{ℕ}
use Rattle.units.specs.declared.bracket.Bracket.TheVariants.{No}
use Rattle.units.specs.declared.bracket.Unit.{Unit as BidiUnit}
use Rattle.units.specs.declared.class.Class.{Class}
use Rattle.ucdfiles.specs.Tables.{class_by}
use Rattle.ucdfiles.specs.UnitStages.{UnitStages}

-- the unit of this class that is no bracket
abbrev pub of_class : Class → BidiUnit
of_class c = record { class = c; bracket = No }

-- the unit of a code point if it is no bracket
abbrev pub plain_unit : UnitStages → ℕ → BidiUnit
plain_unit stages c = of_class (class_by stages.classes c)

-- The stages that the unit of a code point comes from.
use Rattle.std.specs.Prelude.{ℕ}
use Rattle.units.specs.declared.class.Class.{Class}
use Rattle.units.specs.declared.bracket.Bracket.{Bracket}
use Rattle.units.specs.declared.bracket.Unit.{Unit as BidiUnit}
use Rattle.ucdfiles.specs.Stages.{Stages}
use Rattle.ucdfiles.specs.Tables.{TablesOf, class_by, bracket_by}

-- the stages of the classes and of the brackets
pub record UnitStages : Type 0 where
  pub classes : Stages Class
  pub brackets : Stages Bracket

-- the stages of the tables
abbrev pub unit_stages : TablesOf → UnitStages
unit_stages tables = record { classes = tables.classes; brackets = tables.brackets }

-- the unit that they give a code point; the stages of tables give the one that the tables give (`unit_by`)
abbrev pub unit_by_stages : UnitStages → ℕ → BidiUnit
unit_by_stages stages c = record { class = class_by stages.classes c; bracket = bracket_by stages.brackets c }

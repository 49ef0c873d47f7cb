-- A text read unit by unit, without columns.
use Rattle.std.specs.Prelude.{◌≡◌, ◌<◌, [], ◌∷◌}
use Rattle.units.specs.declared.bracket.Unit.{Unit as BidiUnit}
use Rattle.ucdfiles.specs.Tables.{TablesOf}
use Rattle.sources.specs.Sources.{SourceOf, IsWellFormed, size_of, units_of}

-- a text has no units
abbrev pub IsEmpty : TablesOf → SourceOf → Type 0
IsEmpty tables source = units_of tables source ≡ []

-- a text begins with this unit, and the other text is what comes after it
pub record IsSplit (tables : TablesOf) (source : SourceOf) (first : BidiUnit) (rest : SourceOf) : Type 0 where
  pub well_formed : IsWellFormed rest
  pub units : units_of tables source ≡ first ∷ units_of tables rest
  pub shorter : size_of rest < size_of source

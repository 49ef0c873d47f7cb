-- The direction of a text, with the tables of a handle and without a layout.
use Rattle.std.specs.Prelude.{ℕ, ◌≡◌, Option, List, MatchOption}
use Rattle.ucdfiles.specs.Tables.{TablesOf}
use Rattle.sources.specs.Sources.{SourceOf}
use Rattle.for_c.specs.Base.{IsBaseLevel, IsLeftToRight, PutsBaseLevels, RejectsBase, RejectsText}
use Rattle.for_c.specs.Statuses.{Outcome, Puts}
use Rattle.for_c.specs.declared.call_error.CallError.TheVariants.{NoTables}
use Rattle.bidi_c.specs.AtHandles.{AtTables, Fails}

-- they are written and counted, if there are tables; else the call fails, and nothing is written
pub record PutsBaseLevelsAt (tables : Option TablesOf) (source : SourceOf) (number : ℕ) (levels levels2 : List ℕ)
    (count count2 : ℕ) (outcome : Outcome) : Type 0 where
  pub so : MatchOption tables (Fails {A = List ℕ × ℕ} NoTables (levels, count) (levels2, count2) outcome)
      (λ by. PutsBaseLevels by source number levels levels2 count count2 outcome)

-- P1 to P3: the level of the first paragraph of a text is put into a place, if there are tables
abbrev pub PutsBaseLevelAt : Option TablesOf → SourceOf → ℕ → ℕ → ℕ → Outcome → Type 0
PutsBaseLevelAt tables source number before after outcome =
    AtTables tables (λ by. Puts (IsBaseLevel by source number) (RejectsBase source number)) before after outcome

-- whether the classes of a text stay at level 0 is put into a place, if there are tables
abbrev pub PutsLeftToRightAt : Option TablesOf → SourceOf → ℕ → ℕ → Outcome → Type 0
PutsLeftToRightAt tables source before after outcome =
    AtTables tables (λ by. Puts (IsLeftToRight by source) (RejectsText source)) before after outcome

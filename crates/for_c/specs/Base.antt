-- The direction of a text, without a layout.
use Rattle.std.specs.Prelude.{ℕ, ◌≡◌, ◌⊎◌, None, IsSome, MatchOption, IfErr, OnErr, OnOk, List, if◌then◌else◌}
use Rattle.units.specs.Classes.{classes_of}
use Rattle.units.specs.Layout.{para_levels_of}
use Rattle.ucdfiles.specs.Tables.{TablesOf}
use Rattle.sources.specs.Sources.{SourceOf, IsFirstFault, IsWellFormed, units_of}
use Rattle.room.specs.BaseLevels.{base_level}
use Rattle.room.specs.StaysAtZero.{all_stay_at_zero}
use Rattle.room.specs.Written.{WritesWhole}
use Rattle.room.specs.declared.fault.LayoutFault.TheVariants.{IllFormed}
use Rattle.for_c.specs.Directions.{direction_numbered}
use Rattle.for_c.specs.Reasons.{error_of_text}
use Rattle.for_c.specs.Statuses.{Outcome}
use Rattle.for_c.specs.declared.call_error.CallError.{CallError}
use Rattle.for_c.specs.declared.call_error.CallError.TheVariants.{NoDirection}

-- P1 to P3: the number is a direction, the text is well formed, and this is the level of its first paragraph
abbrev pub IsBaseLevel : TablesOf → SourceOf → ℕ → ℕ → Type 0
IsBaseLevel tables source number level =
    MatchOption (direction_numbered number) ⊥
    (λ direction. IsWellFormed source × (level ≡ base_level (units_of tables source) direction))

-- a text is rejected for this reason: its first unit that is not part of a character
abbrev pub RejectsText : SourceOf → CallError → Type 0
RejectsText source error = (at : ℕ) × IsFirstFault source at × (error ≡ error_of_text source (IllFormed at))

-- it has no level under a direction for this reason: the number is no direction, or else the text is ill formed
abbrev pub RejectsBase : SourceOf → ℕ → CallError → Type 0
RejectsBase source number error =
    ((error ≡ NoDirection) × (direction_numbered number ≡ None))
    ⊎ (IsSome (direction_numbered number) × RejectsText source error)

-- the text is well formed, and this number, 1 or 0, says whether its classes stay at level 0
abbrev pub IsLeftToRight : TablesOf → SourceOf → ℕ → Type 0
IsLeftToRight tables source number =
    IsWellFormed source × (number ≡ (if all_stay_at_zero (classes_of (units_of tables source)) then 1 else 0))

-- the number is a direction, the text is well formed, and the levels of its paragraphs are counted, and written to the
-- front whole or not at all
abbrev pub WritesBaseLevels : TablesOf → SourceOf → ℕ → ℕ → List ℕ → List ℕ → Type 0
WritesBaseLevels tables source number count old new =
    MatchOption (direction_numbered number) ⊥
    (λ direction. IsWellFormed source × WritesWhole (para_levels_of (units_of tables source) direction) count old new)

-- a call that is to write the levels of the paragraphs of a text writes and counts them, or fails for a reason, and
-- nothing is written
pub record PutsBaseLevels (tables : TablesOf) (source : SourceOf) (number : ℕ) (levels levels2 : List ℕ)
    (count count2 : ℕ) (outcome : Outcome) : Type 0 where
  pub written : OnOk outcome (WritesBaseLevels tables source number count2 levels levels2)
  pub unchanged_levels : OnErr outcome (levels2 ≡ levels)
  pub unchanged_count : OnErr outcome (count2 ≡ count)
  pub reason : IfErr outcome (RejectsBase source number)

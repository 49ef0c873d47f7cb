-- The properties of a code point, as numbers.
use Rattle.std.specs.Prelude.{ℕ, ◌≡◌, Some}
use Rattle.std.specs.Char.{IsScalar}
use Rattle.units.specs.declared.bracket.Unit.{Unit as BidiUnit}
use Rattle.units.specs.declared.bracket.Bracket.{Bracket}
use Rattle.units.specs.declared.bracket.Bracket.TheVariants.{No, Open, Close}
use Rattle.ucdfiles.specs.Tables.{TablesOf, class_by, bracket_by, unit_by}
use Rattle.sources.specs.ClassNumbers.{class_numbered}
use Rattle.for_c.specs.declared.call_error.CallError.{CallError}
use Rattle.for_c.specs.declared.call_error.CallError.TheVariants.{NoCharacter}

-- the code point is a scalar value, and this is its unit
abbrev pub IsUnitOf : TablesOf → ℕ → BidiUnit → Type 0
IsUnitOf tables code unit = IsScalar code × (unit ≡ unit_by tables code)

-- the code point is a scalar value, and this is the number of its class
abbrev pub IsClassOf : TablesOf → ℕ → ℕ → Type 0
IsClassOf tables code number = IsScalar code × (class_numbered number ≡ Some (class_by tables.classes code))

-- BD14, BD15: the number of what a bracket does: 0 if there is none, 1 if it opens, 2 if it closes
abbrev pub bracket_number : Bracket → ℕ
bracket_number No = 0
bracket_number (Open key) = 1
bracket_number (Close key) = 2

-- the code point is a scalar value, and this is the number of what its bracket does
abbrev pub IsBracketOf : TablesOf → ℕ → ℕ → Type 0
IsBracketOf tables code number = IsScalar code × (number ≡ bracket_number (bracket_by tables.brackets code))

-- the code point has no properties for this reason: it isn't a scalar value
abbrev pub RejectsCode : ℕ → CallError → Type 0
RejectsCode code error = (error ≡ NoCharacter 0) × (IsScalar code → ⊥)

-- Units by numbers.
use Rattle.std.specs.Prelude.{ℕ, ◌≢◌, ◌<◌, None, Option, List, [], ◌∷◌, length, map, slice_index_or}
use Rattle.std.specs.List.{slice_get}
use Rattle.std.specs.Option.{unwrap_or}
use Rattle.units.specs.declared.bracket.Bracket.{Bracket}
use Rattle.units.specs.declared.bracket.Bracket.TheVariants.{No, Open, Close}
use Rattle.units.specs.declared.bracket.Key.{Key}
use Rattle.units.specs.declared.bracket.Unit.{Unit as BidiUnit}
use Rattle.units.specs.declared.class.Class.TheVariants.{L}
use Rattle.sources.specs.ClassNumbers.{class_numbered}
use Rattle.sources.specs.declared.numbered_units.NumberedUnit.{NumberedUnit}

-- the key with this number
abbrev pub key_numbered : ℕ → Key
key_numbered key = record { 0 = key }

-- BD14, BD15: the bracket with this key of the kind with this number, 0 for no bracket, 1 for an opening one, 2 for a
-- closing one
abbrev pub bracket_numbered : ℕ → ℕ → Option Bracket
bracket_numbered kind key = slice_get (No ∷ Open (key_numbered key) ∷ Close (key_numbered key) ∷ []) kind

-- a class and a kind of bracket have these numbers
pub record IsNumbered (numbers : NumberedUnit) : Type 0 where
  pub class : class_numbered numbers.class ≢ None
  pub bracket : bracket_numbered numbers.bracket numbers.key ≢ None

-- the unit with these numbers
abbrev pub numbered_unit : NumberedUnit → BidiUnit
numbered_unit numbers = record {
  class = unwrap_or (class_numbered numbers.class) L;
  bracket =
      unwrap_or (bracket_numbered numbers.bracket numbers.key) No;
}

-- the units with these numbers
abbrev pub numbered_units : List NumberedUnit → List BidiUnit
numbered_units numbered = map numbered_unit numbered

-- the numbers at an index, all 0 past the end
abbrev pub numbers_at : List NumberedUnit → ℕ → NumberedUnit
numbers_at numbered k = slice_index_or numbered k (record { class = 0; bracket = 0; key = 0 })

-- each of them has numbers of a class and of a kind of bracket
abbrev pub AreNumbered : List NumberedUnit → Type 0
AreNumbered numbered = (k : ℕ) → k < length numbered → IsNumbered (numbers_at numbered k)

-- the index is that of the first that hasn't
pub record IsFirstUnnumbered (numbered : List NumberedUnit) (index : ℕ) : Type 0 where
  pub inside : index < length numbered
  pub outside : IsNumbered (numbers_at numbered index) → ⊥
  pub earlier : (k : ℕ) → k < index → IsNumbered (numbers_at numbered k)

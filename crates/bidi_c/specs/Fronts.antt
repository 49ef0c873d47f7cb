-- Properties of whole arrays with the tables of a handle, and what a room says about its text for other engines.
use Rattle.std.specs.Prelude.{ℕ, ◌≡◌, Option, Some, None, List, [], MatchOption}
use Rattle.units.specs.Layout.{text_levels}
use Rattle.ucdfiles.specs.Tables.{TablesOf}
use Rattle.room.specs.Rooms.{RoomOf}
use Rattle.room.specs.WholeLevels.{WritesWholeLevels}
use Rattle.for_c.specs.Fronts.{PutsProperties}
use Rattle.for_c.specs.Pairs.{IsPairedBracket}
use Rattle.for_c.specs.Shown.{WritesNothing}
use Rattle.for_c.specs.Statuses.{Outcome}
use Rattle.for_c.specs.declared.call_error.CallError.TheVariants.{NoTables}
use Rattle.bidi_c.specs.AtHandles.{Fails}

-- the classes and brackets of code points are written, if there are tables; else the call fails, and nothing is written
pub record PutsPropertiesAt (tables : Option TablesOf) (codes classes classes2 brackets brackets2 : List ℕ)
    (outcome : Outcome) : Type 0 where
  pub so : MatchOption tables (Fails {A = List ℕ × List ℕ} NoTables (classes, brackets) (classes2, brackets2) outcome)
      (λ by. PutsProperties by codes classes classes2 brackets brackets2 outcome)

-- BD14 to BD16: the bracket that a code point pairs with, or 0 if there is none, or there are no tables
abbrev pub PairsAt : Option TablesOf → ℕ → ℕ → Type 0
PairsAt (Some tables) code partner = IsPairedBracket tables code partner
PairsAt None code partner = partner ≡ 0

-- P1 to I2: the levels of the text of a room before L1; without a room none
abbrev pub resolved_at : Option RoomOf → List (Option ℕ)
resolved_at (Some room) = text_levels room.text.limits room.text.units room.text.direction
resolved_at None = []

-- X9, L1: the levels of all characters of the text of a room are written, including removed ones; without a room none
abbrev pub WritesWholeLevelsAt : Option RoomOf → ℕ → List ℕ → List ℕ → Type 0
WritesWholeLevelsAt (Some room) counted old new = WritesWholeLevels room counted old new
WritesWholeLevelsAt None counted old new = WritesNothing counted old new

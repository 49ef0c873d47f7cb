-- Calls that need something in a handle.
use Rattle.std.specs.Prelude.{ℕ, Bool, ◌≡◌, Option, Some, None, Err, MatchOption}
use Rattle.units.specs.declared.level.Direction.{Direction}
use Rattle.ucdfiles.specs.Tables.{TablesOf}
use Rattle.room.specs.Rooms.{RoomOf}
use Rattle.for_c.specs.Directions.{direction_numbered}
use Rattle.for_c.specs.Statuses.{Outcome}
use Rattle.for_c.specs.declared.call_error.CallError.{CallError}
use Rattle.for_c.specs.declared.call_error.CallError.TheVariants.{NoDirection, NoRoom, NoTables}
use Rattle.bidi_c.specs.ContentsIn.{room_for, tables_in}
use Rattle.bidi_c.specs.declared.contents.Contents.{Contents}
use Rattle.bidi_c.specs.declared.contents.Contents.TheVariants.{Room}

-- a call fails with this error, and changes nothing
abbrev pub Fails : {A : Type 0} → CallError → A → A → Outcome → Type 0
Fails error old new outcome = (new ≡ old) × (outcome ≡ Err error)

-- a call that needs a value fails without it; with the value `IsSo` holds
pub record Needs {V A : Type 0} (error : CallError) (value : Option V) (IsSo : V → A → A → Outcome →
    Type 0) (old new : A) (outcome : Outcome) : Type 0 where
  pub so : MatchOption value (Fails error old new outcome) (λ v. IsSo v old new outcome)

-- a call that needs tables
abbrev pub AtTables : {A : Type 0} → Option TablesOf → (TablesOf → A → A → Outcome → Type 0) → A → A → Outcome → Type 0
AtTables tables IsSo old new outcome = Needs NoTables tables IsSo old new outcome

-- a call that needs a room, and only reads it
abbrev pub AtARoom : {A : Type 0} → Option RoomOf → (RoomOf → A → A → Outcome → Type 0) → A → A → Outcome → Type 0
AtARoom room IsSo old new outcome = Needs NoRoom room IsSo old new outcome

-- a call that needs the number of a direction
abbrev pub UnderDirection : {A : Type 0} → ℕ → (Direction → A → A → Outcome → Type 0) → A → A → Outcome → Type 0
UnderDirection number IsSo old new outcome = Needs NoDirection (direction_numbered number) IsSo old new outcome

-- a call that needs a room of a kind, and changes it
pub record AtRoom (encodes : Bool) (IsSo : RoomOf → RoomOf → Outcome →
    Type 0) (old new : Option Contents) (outcome : Outcome) : Type 0 where
  pub so : MatchOption (room_for encodes old) (Fails NoRoom old new outcome)
      (λ room. (last : RoomOf) × (new ≡ Some (Room last)) × IsSo room last outcome)

-- a call that needs a room of a kind, which it changes, and tables: if one of the handles is empty, it fails for that
-- first
abbrev pub AtBoth : Bool → Option Contents → (TablesOf → RoomOf → RoomOf → Outcome → Type 0) → Option Contents →
    Option Contents → Outcome → Type 0
AtBoth encodes tables IsSo None new outcome = Fails NoRoom None new outcome
AtBoth encodes None IsSo (Some contents) new outcome = Fails NoTables (Some contents) new outcome
AtBoth encodes (Some tables) IsSo (Some contents) new outcome =
    AtRoom encodes (AtTables (tables_in (Some tables)) IsSo) (Some contents) new outcome

-- L4: a line of a room as it is shown, in code points and in code units.
use Rattle.std.specs.Prelude.{ℕ, Option, Some, List}
use Rattle.ucdfiles.specs.Tables.{TablesOf}
use Rattle.room.specs.Rooms.{RoomOf}
use Rattle.for_c.specs.Shown.{WritesNothing, WritesShownIf, WritesUnitsIf}

-- L4: the line with the number k is written as it is shown, if there are a room and tables; else nothing is written
abbrev pub WritesShownAt : Option RoomOf → Option TablesOf → List ℕ → ℕ → ℕ → List ℕ → List ℕ → Type 0
WritesShownAt (Some room) (Some tables) codes k counted old new = WritesShownIf tables room codes k counted old new
WritesShownAt _ _ codes k counted old new = WritesNothing counted old new

-- L4: the same in the code units of the text
abbrev pub WritesUnitsAt : (TablesOf → RoomOf → List ℕ → ℕ → List ℕ) → Option RoomOf → Option TablesOf → List ℕ → ℕ →
    ℕ → List ℕ → List ℕ → Type 0
WritesUnitsAt shown_units (Some room) (Some tables) text k counted old new =
    WritesUnitsIf shown_units tables room text k counted old new
WritesUnitsAt _ _ _ _ _ counted old new = WritesNothing counted old new

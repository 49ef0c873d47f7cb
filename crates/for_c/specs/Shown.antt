-- L4: a line as it is shown, as C gets it.
use Rattle.std.specs.Prelude.{ℕ, ◌≡◌, ◌≢◌, List, length}
use Rattle.ucdfiles.specs.Tables.{TablesOf}
use Rattle.room.specs.Looking.{size_in}
use Rattle.room.specs.Rooms.{RoomOf, characters_in}
use Rattle.room.specs.Showing.{WritesShown}
use Rattle.room.specs.Written.{WritesWhole}

-- nothing is counted, and nothing is written
pub record WritesNothing {A : Type 0} (counted : ℕ) (old new : List A) : Type 0 where
  pub count : counted ≡ 0
  pub unchanged : new ≡ old

-- L4: the characters of the line with the number k are counted, and written as they are shown, whole or not at all, if
-- there are as many code points as the room has characters; else nothing is written
pub record WritesShownIf (tables : TablesOf) (room : RoomOf) (codes : List ℕ) (k counted : ℕ)
    (old new : List ℕ) : Type 0 where
  pub shown : length codes ≡ characters_in room → WritesShown tables room codes k counted old new
  pub other : length codes ≢ characters_in room → WritesNothing counted old new

-- L4: the code units that are shown of the line with the number k are counted, and written whole or not at all, if the
-- text has as many code units as that of the room; else nothing is written
pub record WritesUnitsIf (shown_units : TablesOf → RoomOf → List ℕ → ℕ → List ℕ) (tables : TablesOf) (room : RoomOf)
    (text : List ℕ) (k counted : ℕ) (old new : List ℕ) : Type 0 where
  pub shown : length text ≡ size_in room → WritesWhole (shown_units tables room text k) counted old new
  pub other : length text ≢ size_in room → WritesNothing counted old new

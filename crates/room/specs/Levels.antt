-- The level of each unit of a text's source.
use Rattle.std.specs.Prelude.{ℕ, ◌≡◌, Option, None, List, slice_index_or}
use Rattle.room.specs.Looking.{IsAt, size_in}
use Rattle.room.specs.Rooms.{RoomOf}
use Rattle.room.specs.Written.{Writes}

-- these are the levels of the source's units, each that of its character
abbrev pub AreLevelsOf : RoomOf → List (Option ℕ) → Type 0
AreLevelsOf room levels = (at k : ℕ) → IsAt room at k →
    slice_index_or levels at None ≡ slice_index_or room.layout.levels k None

-- the units are counted, and their levels are written whole or not at all
abbrev pub WritesLevels : RoomOf → ℕ → List (Option ℕ) → List (Option ℕ) → Type 0
WritesLevels room counted old new = Writes (size_in room) (AreLevelsOf room) counted old new

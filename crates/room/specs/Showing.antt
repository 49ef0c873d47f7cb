-- A line as it is shown, from left to right (L4).
use Rattle.std.specs.Prelude.{ℕ, ◌≡◌, ◌<◌, Option, None, if◌then◌else◌, List, length, slice_index, slice_index_or}
use Rattle.std.specs.Char.{IsScalar}
use Rattle.std.specs.Option.{unwrap_or}
use Rattle.units.specs.Reordering.{is_odd_level}
use Rattle.lines.specs.Layouts.{line_at}
use Rattle.ucdfiles.specs.Tables.{TablesOf, mirror_by}
use Rattle.room.specs.Rooms.{RoomOf}
use Rattle.room.specs.Written.{Writes}

-- L4: the character that is shown for a character with this level: its mirror image, if the level is odd and it has one
abbrev pub shown_char : TablesOf → Option ℕ → ℕ → ℕ
shown_char tables level c = if is_odd_level level then unwrap_or (mirror_by tables.mirrors c) c else c

-- L4: what is shown for a code point with this level; a number that isn't a scalar value is shown unchanged
pub record IsShown (tables : TablesOf) (level : Option ℕ) (code shown : ℕ) : Type 0 where
  pub character : IsScalar code → shown ≡ shown_char tables level code
  pub other : (IsScalar code → ⊥) → shown ≡ code

-- L4: at each place of the order its code point is shown
abbrev pub AreShown : TablesOf → RoomOf → List ℕ → List ℕ → List ℕ → Type 0
AreShown tables room codes order shown =
    (i : ℕ) → i < length shown →
    IsShown tables (slice_index_or room.layout.levels (slice_index order i) None)
    (slice_index codes (slice_index order i)) (slice_index shown i)

-- L4: the characters of the line with the number k are counted, and written as they are shown, whole or not at all
abbrev pub WritesShown : TablesOf → RoomOf → List ℕ → ℕ → ℕ → List ℕ → List ℕ → Type 0
WritesShown tables room codes k counted old new =
    Writes (length (line_at room.layout k).order) (AreShown tables room codes (line_at room.layout k).order) counted old
    new

-- What a layout says about a text in the units of its source.
use Rattle.std.specs.Prelude.{ℕ, ◌≤◌, ◌<◌, ◌+◌, ◌≡◌, ◌⊎◌, Option, None, List, length, map, slice_index_or}
use Rattle.units.specs.Layout.{LineLayout}
use Rattle.units.specs.declared.level.ParaLevel.{ParaLevel}
use Rattle.lines.specs.Layouts.{line_at}
use Rattle.lines.specs.ParaLevels.{HasParaLevelAt}
use Rattle.room.specs.Rooms.{RoomOf, characters_in, offset_in}
use Rattle.room.specs.declared.lookups.Line.{Line}

-- the unit of the source at the offset is one of those of the character with the index k
pub record IsAt (room : RoomOf) (at k : ℕ) : Type 0 where
  pub inside : k < characters_in room
  pub from : offset_in room k ≤ at
  pub before : at < offset_in room (k + 1)

-- how many units the source has
abbrev pub size_in : RoomOf → ℕ
size_in room = offset_in room (characters_in room)

-- a line of characters, in the units of the source
abbrev pub in_units : RoomOf → LineLayout → LineLayout
in_units room line =
    record { start = offset_in room line.start; end = offset_in room line.end; order = map (offset_in room) line.order }

-- the line with the number k, in the units of the source
abbrev pub line_in : RoomOf → ℕ → LineLayout
line_in room k = in_units room (line_at room.layout k)

-- where a line begins and ends, and how many characters it shows
abbrev pub bounds_of : LineLayout → Line
bounds_of line = record { start = line.start; end = line.end; shown = length line.order }

-- all lines, in the units of the source
abbrev pub lines_in : RoomOf → List Line
lines_in room = map (λ line. bounds_of (in_units room line)) room.layout.lines

-- it is the level of the character of the unit at the offset, or none from the text's end on
abbrev pub IsLevelAt : RoomOf → ℕ → Option ℕ → Type 0
IsLevelAt room at level =
    ((k : ℕ) × IsAt room at k × (level ≡ slice_index_or room.layout.levels k None)) ⊎
    ((size_in room ≤ at) × (level ≡ None))

-- P2, P3: it is the level of the paragraph in which the character with the index k lies
abbrev pub HasParaLevelOf : RoomOf → ℕ → ParaLevel → Type 0
HasParaLevelOf room k level = HasParaLevelAt room.text.units room.text.direction k level

-- P2, P3: it is the level of the paragraph in which the unit at the offset lies
abbrev pub HasParaLevelIn : RoomOf → ℕ → ParaLevel → Type 0
HasParaLevelIn room at level = (k : ℕ) × IsAt room at k × HasParaLevelOf room k level

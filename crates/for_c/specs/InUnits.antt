-- What a room says about its text in the units of the text's source, as C gets it.
use Rattle.std.specs.Prelude.{ℕ, ◌≡◌, ◌<◌, ◌≤◌, ◌+◌, ◌-◌, ◌⊎◌, Option, None, List, length, slice_index_or}
use Rattle.lines.specs.Layouts.{line_at}
use Rattle.units.specs.Isolates.{level_of_para}
use Rattle.units.specs.declared.level.ParaLevel.{ParaLevel}
use Rattle.room.specs.Looking.{HasParaLevelIn, IsAt, IsLevelAt, bounds_of, line_in, size_in}
use Rattle.room.specs.Rooms.{RoomOf, characters_in, offset_in}
use Rattle.room.specs.Places.{WritesPlaces}
use Rattle.room.specs.Written.{Writes}
use Rattle.for_c.specs.LevelBytes.{level_byte}
use Rattle.for_c.specs.Lines.{line_for_c}
use Rattle.for_c.specs.Runs.{IsVisualRun}
use Rattle.for_c.specs.Shown.{WritesNothing}
use Rattle.for_c.specs.declared.line.BidiLine.{BidiLine}
use Rattle.for_c.specs.declared.runs.BidiRun.{BidiRun}

-- it is the index of the character of the unit at the offset; from the text's end on it is the number of characters
abbrev pub IsIndexAt : RoomOf → ℕ → ℕ → Type 0
IsIndexAt room at index = IsAt room at index ⊎ ((size_in room ≤ at) × (index ≡ characters_in room))

-- it is the level of the unit at the offset, as a byte
abbrev pub IsLevelByteAt : RoomOf → ℕ → ℕ → Type 0
IsLevelByteAt room at byte = (level : Option ℕ) × IsLevelAt room at level × (byte ≡ level_byte level)

-- these are the levels of the units, each that of its character, as bytes
abbrev pub AreLevelBytes : RoomOf → List ℕ → Type 0
AreLevelBytes room bytes =
    (at k : ℕ) → IsAt room at k → slice_index_or bytes at 0 ≡ level_byte (slice_index_or room.layout.levels k None)

-- the units are counted, and their levels are written whole or not at all
abbrev pub WritesLevelBytes : RoomOf → ℕ → List ℕ → List ℕ → Type 0
WritesLevelBytes room counted old new = Writes (size_in room) (AreLevelBytes room) counted old new

-- it is the line with the number k, and there is such a line
abbrev pub IsUnitLine : RoomOf → ℕ → BidiLine → Type 0
IsUnitLine room k line = (k < length room.layout.lines) × (line ≡ line_for_c (bounds_of (line_in room k)))

-- a run of characters, in units
abbrev pub run_in_units : RoomOf → BidiRun → BidiRun
run_in_units room run =
    record {
      start = offset_in room run.start;
      length = offset_in room (run.start + run.length) - offset_in room run.start;
      shown = run.shown;
      level = run.level;
    }

-- it is the run of one level from a place of the line with the number k on, in units
abbrev pub IsUnitRun : RoomOf → ℕ → ℕ → BidiRun → Type 0
IsUnitRun room k from run =
    (characters : BidiRun) × IsVisualRun room.layout.levels (line_at room.layout k).order from characters
    × (run ≡ run_in_units room characters)

-- P2, P3: it is the level of the paragraph in which the unit at the offset lies; from the text's end on it is 255
abbrev pub IsParaByteAt : RoomOf → ℕ → ℕ → Type 0
IsParaByteAt room at byte =
    ((level : ParaLevel) × HasParaLevelIn room at level × (byte ≡ level_of_para level)) ⊎
    ((size_in room ≤ at) × (byte ≡ 255))

-- L2: the units of the line with the number k are counted, and their places are written whole or not at all; there are
-- none if there is no such line
pub record WritesUnitPlaces (room : RoomOf) (k counted : ℕ) (old new : List ℕ) : Type 0 where
  pub some : k < length room.layout.lines → WritesPlaces room (line_at room.layout k) counted old new
  pub none : length room.layout.lines ≤ k → WritesNothing counted old new

-- A text as its caller has it: how many units it has, whether it can be read, and its characters.
use Rattle.std.specs.Prelude.{ℕ, Bool, true, false, ◌≡◌, ⊤, List, [], length}
use Rattle.std.specs.Char.{IsScalar}
use Rattle.std.specs.Str.{IsUtf8}
use Rattle.std.specs.Str.Lossy.{utf8_valid_len}
use Rattle.units.specs.declared.bracket.Unit.{Unit as BidiUnit}
use Rattle.ucdfiles.specs.Tables.{TablesOf, units_by}
use Rattle.decoding.specs.Encodings.{IsFirstLone, IsUtf16, utf16_text, utf8_text}
use Rattle.decoding.specs.LossyTexts.{utf8_lossy_text}
use Rattle.decoding.specs.Offsets.{Spelled, codes_of, offset_of}
use Rattle.decoding.specs.declared.fault.Faults.{Faults}
use Rattle.decoding.specs.declared.fault.Faults.TheVariants.{Rejected, Replaced}
use Rattle.sources.specs.ClassNumbers.{IsClassNumber, units_numbered}
use Rattle.sources.specs.Kinds.{AllAre, IsFirstOther}
use Rattle.sources.specs.NumberedUnits.{AreNumbered, IsFirstUnnumbered, numbered_units}
use Rattle.sources.specs.declared.numbered_units.NumberedUnit.{NumberedUnit}

-- a text as its units: code points, classes as numbers, units as numbers, bytes of UTF-8, or code units of UTF-16; the
-- last two say what becomes of code units that spell no character
pub data SourceOf : Type 0 where
  Codes : List ℕ → SourceOf
  Classes : List ℕ → SourceOf
  Units : List NumberedUnit → SourceOf
  Utf8 : List ℕ → Faults → SourceOf
  Utf16 : List ℕ → Faults → SourceOf

-- how many units it has
abbrev pub size_of : SourceOf → ℕ
size_of (Codes numbers) = length numbers
size_of (Classes numbers) = length numbers
size_of (Units numbered) = length numbered
size_of (Utf8 bytes faults) = length bytes
size_of (Utf16 units faults) = length units

-- whether its units are code units; a character can take several of these
abbrev pub is_encoded : SourceOf → Bool
is_encoded (Codes numbers) = false
is_encoded (Classes numbers) = false
is_encoded (Units numbered) = false
is_encoded (Utf8 bytes faults) = true
is_encoded (Utf16 units faults) = true

abbrev pub IsEncoded : SourceOf → Type 0
IsEncoded source = is_encoded source ≡ true

-- the characters that its code units spell; code points, classes and units are none
abbrev pub text_in : SourceOf → List Spelled
text_in (Utf8 bytes Rejected) = utf8_text bytes
text_in (Utf8 bytes Replaced) = utf8_lossy_text bytes
text_in (Utf16 units faults) = utf16_text units
text_in _ = []

-- its code points; classes and units have none
abbrev pub codes_in : SourceOf → List ℕ
codes_in (Codes numbers) = numbers
codes_in source = codes_of (text_in source)

-- how many characters it has; a class is one, and so is a unit
abbrev pub characters_of : SourceOf → ℕ
characters_of (Codes numbers) = length numbers
characters_of (Classes numbers) = length numbers
characters_of (Units numbered) = length numbered
characters_of source = length (text_in source)

-- the class and the bracket of each of its characters; a class that is given by its number has no bracket
abbrev pub units_of : TablesOf → SourceOf → List BidiUnit
units_of tables (Classes numbers) = units_numbered numbers
units_of tables (Units numbered) = numbered_units numbered
units_of tables source = units_by tables (codes_in source)

-- the offset at which the character with the index k begins, or the text's end if k is the number of characters
abbrev pub source_offset : SourceOf → ℕ → ℕ
source_offset (Codes numbers) k = k
source_offset (Classes numbers) k = k
source_offset (Units numbered) k = k
source_offset source k = offset_of (text_in source) k

-- each of its units is part of a character; U+FFFD for a replaced fault is one
abbrev pub IsWellFormed : SourceOf → Type 0
IsWellFormed (Codes numbers) = AllAre IsScalar numbers
IsWellFormed (Classes numbers) = AllAre IsClassNumber numbers
IsWellFormed (Units numbered) = AreNumbered numbered
IsWellFormed (Utf8 bytes Rejected) = IsUtf8 bytes
IsWellFormed (Utf8 bytes Replaced) = ⊤
IsWellFormed (Utf16 units Rejected) = IsUtf16 units
IsWellFormed (Utf16 units Replaced) = ⊤

-- the first unit that is part of no character is at this offset
abbrev pub IsFirstFault : SourceOf → ℕ → Type 0
IsFirstFault (Codes numbers) at = IsFirstOther IsScalar numbers at
IsFirstFault (Classes numbers) at = IsFirstOther IsClassNumber numbers at
IsFirstFault (Units numbered) at = IsFirstUnnumbered numbered at
IsFirstFault (Utf8 bytes Rejected) at = (IsUtf8 bytes → ⊥) × (at ≡ utf8_valid_len bytes)
IsFirstFault (Utf8 bytes Replaced) at = ⊥
IsFirstFault (Utf16 units Rejected) at = IsFirstLone units at
IsFirstFault (Utf16 units Replaced) at = ⊥

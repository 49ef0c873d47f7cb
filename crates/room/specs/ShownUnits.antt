-- A line as it is shown, from left to right, in code units (L2, L4).
use Rattle.std.specs.Prelude.{ℕ, ◌≡◌, ◌≤◌, ◌<◌, None, List, [], ◌∷◌, drop, length, slice_index, slice_index_or, take}
use Rattle.std.specs.Char.{encode_utf8}
use Rattle.std.specs.Char.Escape.{encode_utf16}
use Rattle.std.specs.List.{flat_map}
use Rattle.lines.specs.Layouts.{line_at}
use Rattle.ucdfiles.specs.Tables.{TablesOf}
use Rattle.decoding.specs.Encodings.{utf16_text}
use Rattle.decoding.specs.LossyTexts.{utf8_lossy_text}
use Rattle.decoding.specs.Offsets.{Spelled}
use Rattle.sources.specs.Asks.{AskOf}
use Rattle.sources.specs.Sources.{SourceOf, IsWellFormed, codes_in}
use Rattle.room.specs.Leaving.{IsAsked}
use Rattle.room.specs.Rooms.{RoomOf, characters_in, offset_in}
use Rattle.room.specs.Showing.{shown_char}

-- the first of these characters, or U+FFFD if there is none
abbrev pub first_code : List Spelled → ℕ
first_code [] = 0xFFFD
first_code (s ∷ text) = s.code

-- the character that begins at an offset of bytes, or U+FFFD if none does
abbrev pub utf8_code_at : List ℕ → ℕ → ℕ
utf8_code_at bytes at = first_code (utf8_lossy_text (drop at bytes))

-- the character that begins at an offset of code units of 16 bits, or U+FFFD if none does
abbrev pub utf16_code_at : List ℕ → ℕ → ℕ
utf16_code_at units at = first_code (utf16_text (drop at units))

-- L4: what is shown of the character with the index k, in code units; at each offset this character begins
abbrev pub shown_units_of : (ℕ → List ℕ) → (ℕ → ℕ) → TablesOf → RoomOf → ℕ → List ℕ
shown_units_of encode code_at tables room k =
    encode (shown_char tables (slice_index_or room.layout.levels k None) (code_at (offset_in room k)))

-- L2, L4: what the line with the number k shows, in UTF-8, of the text of these bytes
abbrev pub shown_utf8 : TablesOf → RoomOf → List ℕ → ℕ → List ℕ
shown_utf8 tables room bytes k =
    flat_map (shown_units_of encode_utf8 (utf8_code_at bytes) tables room) (line_at room.layout k).order

-- L2, L4: the same in UTF-16
abbrev pub shown_utf16 : TablesOf → RoomOf → List ℕ → ℕ → List ℕ
shown_utf16 tables room units k =
    flat_map (shown_units_of encode_utf16 (utf16_code_at units) tables room) (line_at room.layout k).order

-- items are counted, and they are the front of a list if all fit there
pub record ArePut {A : Type 0} (items : List A) (count : ℕ) (out : List A) : Type 0 where
  pub counted : count ≡ length items
  pub written : count ≤ length out → take count out ≡ items

-- the room contains this text, as it was asked for, and the text is well formed
pub record HoldsSource (source : SourceOf) (room : RoomOf) : Type 0 where
  pub ask : AskOf
  pub tables : TablesOf
  pub is : ask.source ≡ source
  pub well_formed : IsWellFormed source
  pub asked : IsAsked ask tables room.text

-- the characters that begin at the room's offsets are those of the text
abbrev pub ReadsCharacters : (ℕ → ℕ) → SourceOf → RoomOf → Type 0
ReadsCharacters code_at source room =
    (k : ℕ) → k < characters_in room → code_at (offset_in room k) ≡ slice_index (codes_in source) k

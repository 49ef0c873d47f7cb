-- Which characters the code units of a text spell, and by how many each.
use Rattle.std.specs.Prelude.{ℕ, ◌≡◌, ◌≢◌, ◌<◌, ◌≤◌, ◌⊎◌, List, drop, length, map, None, slice_index, slice_index_or}
use Rattle.std.specs.Char.{encode_utf8}
use Rattle.std.specs.Char.Escape.{encode_utf16}
use Rattle.std.specs.Char.Utf16.{utf16_chars, utf16_lossy_chars}
use Rattle.std.specs.Str.{chars}
use Rattle.decoding.specs.Offsets.{Spelled, offset_of}

-- a character in UTF-8
abbrev pub in_utf8 : ℕ → Spelled
in_utf8 c = record { code = c; width = length (encode_utf8 c) }

-- the text that well-formed bytes spell
abbrev pub utf8_text : List ℕ → List Spelled
utf8_text bytes = map in_utf8 (chars bytes)

-- a character in UTF-16
abbrev pub in_utf16 : ℕ → Spelled
in_utf16 c = record { code = c; width = length (encode_utf16 c) }

-- the text that code units of 16 bits spell, with U+FFFD for each unpaired surrogate
abbrev pub utf16_text : List ℕ → List Spelled
utf16_text units = map in_utf16 (utf16_lossy_chars units)

-- a character that one code unit spells
abbrev pub in_one_unit : ℕ → Spelled
in_one_unit c = record { code = c; width = 1 }

-- none of the code units of 16 bits is a surrogate
abbrev pub AreNoSurrogates : List ℕ → Type 0
AreNoSurrogates units =
    (k : ℕ) → k < length units → (slice_index units k < 0xD800) ⊎ (0xE000 ≤ slice_index units k)

-- there is a character with the index k, and it is not an unpaired surrogate
abbrev pub IsPaired : List ℕ → ℕ → Type 0
IsPaired units k = slice_index_or (utf16_chars units) k None ≢ None

-- the code units of 16 bits are well formed: no surrogate is unpaired
abbrev pub IsUtf16 : List ℕ → Type 0
IsUtf16 units = (k : ℕ) → k < length (utf16_chars units) → IsPaired units k

-- the first unpaired surrogate is at the offset
pub record IsFirstLone (units : List ℕ) (at : ℕ) : Type 0 where
  pub index : ℕ
  pub inside : index < length (utf16_chars units)
  pub lone : slice_index_or (utf16_chars units) index None ≡ None
  pub earlier : (k : ℕ) → k < index → IsPaired units k
  pub offset : at ≡ offset_of (utf16_text units) index

-- the characters from the index on are those of the code units of 16 bits from the offset on
pub record IsAt (units : List ℕ) (count at : ℕ) : Type 0 where
  pub rest : drop count (utf16_chars units) ≡ utf16_chars (drop at units)
  pub offset : at ≡ offset_of (utf16_text units) count
  pub few : count ≤ at
  pub inside : at ≤ length units

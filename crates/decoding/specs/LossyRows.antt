-- Ill-formed UTF-8, worked by hand: the rows of the standard's tables on U+FFFD for maximal subparts, in chapter 3.
use Rattle.std.specs.Prelude.{◌≡◌, ℕ, [], ◌∷◌, refl}
use Rattle.std.specs.Char.{encode_utf8}
use Rattle.std.specs.Str.{chars, is_utf8}
use Rattle.std.specs.Str.Lossy.{utf8_error_len, utf8_valid_len}
use Rattle.decoding.specs.LossyTexts.{chunks, utf8_lossy_text}
use Rattle.decoding.specs.Offsets.{Spelled}

-- a character of one byte
abbrev pub byte : ℕ → Spelled
byte c = record { code = c; width = 1 }

-- U+FFFD for n bytes
abbrev pub fault : ℕ → Spelled
fault n = record { code = 0xFFFD; width = n }

-- sequences that are cut short: each is one U+FFFD
pub cut_short : utf8_lossy_text (0x61 ∷ 0xF1 ∷ 0x80 ∷ 0x80 ∷ 0xE1 ∷ 0x80 ∷ 0xC2 ∷ 0x62 ∷ 0x80 ∷ 0x63 ∷ 0x80 ∷ 0xBF ∷
    0x64 ∷ []) ≡
    byte 0x61 ∷ fault 3 ∷ fault 2 ∷ fault 1 ∷ byte 0x62 ∷ fault 1 ∷ byte 0x63 ∷ fault 1 ∷ fault 1 ∷ byte 0x64 ∷ []
unfolding chunks utf8_valid_len utf8_error_len is_utf8 chars encode_utf8
cut_short = refl

-- overlong sequences: no character begins with them, and each byte is one U+FFFD
pub too_long : utf8_lossy_text (0xC0 ∷ 0xAF ∷ 0xE0 ∷ 0x80 ∷ 0xBF ∷ 0xF0 ∷ 0x81 ∷ 0x82 ∷ 0x41 ∷ []) ≡
    fault 1 ∷ fault 1 ∷ fault 1 ∷ fault 1 ∷ fault 1 ∷ fault 1 ∷ fault 1 ∷ fault 1 ∷ byte 0x41 ∷ []
unfolding chunks utf8_valid_len utf8_error_len is_utf8 chars encode_utf8
too_long = refl

-- surrogates, the last of them cut short
pub surrogates : utf8_lossy_text (0xED ∷ 0xA0 ∷ 0x80 ∷ 0xED ∷ 0xBF ∷ 0xBF ∷ 0xED ∷ 0xAF ∷ 0x41 ∷ []) ≡
    fault 1 ∷ fault 1 ∷ fault 1 ∷ fault 1 ∷ fault 1 ∷ fault 1 ∷ fault 1 ∷ fault 1 ∷ byte 0x41 ∷ []
unfolding chunks utf8_valid_len utf8_error_len is_utf8 chars encode_utf8
surrogates = refl

-- a code above the greatest, and bytes that are in no character
pub others : utf8_lossy_text (0xF4 ∷ 0x91 ∷ 0x92 ∷ 0x93 ∷ 0xFF ∷ 0x41 ∷ 0x80 ∷ 0xBF ∷ 0x42 ∷ []) ≡
    fault 1 ∷ fault 1 ∷ fault 1 ∷ fault 1 ∷ fault 1 ∷ byte 0x41 ∷ fault 1 ∷ fault 1 ∷ byte 0x42 ∷ []
unfolding chunks utf8_valid_len utf8_error_len is_utf8 chars encode_utf8
others = refl

-- a sequence that is cut short after another one
pub cut_in_turn : utf8_lossy_text (0xE1 ∷ 0x80 ∷ 0xE2 ∷ 0xF0 ∷ 0x91 ∷ 0x92 ∷ 0xF1 ∷ 0xBF ∷ 0x41 ∷ []) ≡
    fault 2 ∷ fault 1 ∷ fault 3 ∷ fault 2 ∷ byte 0x41 ∷ []
unfolding chunks utf8_valid_len utf8_error_len is_utf8 chars encode_utf8
cut_in_turn = refl

-- a character that is cut by the end of the bytes, after one of two bytes
pub cut_by_the_end : utf8_lossy_text (0xD7 ∷ 0x90 ∷ 0xF0 ∷ 0x9F ∷ 0x98 ∷ []) ≡ record {
  code = 0x5D0;
  width =
      2;
} ∷ fault 3 ∷ []
unfolding chunks utf8_valid_len utf8_error_len is_utf8 chars encode_utf8
cut_by_the_end = refl

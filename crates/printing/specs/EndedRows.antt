-- Examples of texts and bytes, and the part of them that has ended.
use Rattle.std.specs.Prelude.{ℕ, ◌≡◌, ◌==◌, List, [], ◌∷◌, refl, codes}
use Rattle.std.specs.Char.{encode_utf8}
use Rattle.std.specs.Str.{chars, is_utf8}
use Rattle.std.specs.Str.Lossy.{utf8_valid_len}
use Rattle.printing.specs.EndedParagraphs.{up_to_separator}
use Rattle.printing.specs.ReadTexts.{utf8_front}

-- the paragraphs that have ended if LF is the only separator
abbrev pub ended_by_lf : List ℕ → List ℕ
ended_by_lf text = up_to_separator (λ c. c == 10) text

-- the paragraph after the last separator has not ended
pub last_omitted : ended_by_lf (codes "a\n\nbc\nd") ≡ codes "a\n\nbc\n"
last_omitted = refl

pub all_ended : ended_by_lf (codes "a\nb\n") ≡ codes "a\nb\n"
all_ended = refl

pub none_ended : ended_by_lf (codes "ab") ≡ []
none_ended = refl

-- an incomplete character is not in the front, and nothing after invalid bytes is
pub begun_omitted : utf8_front (97 ∷ 215 ∷ []) ≡ 97 ∷ []
unfolding utf8_valid_len is_utf8 chars encode_utf8
begun_omitted = refl

pub after_invalid_bytes : utf8_front (97 ∷ 255 ∷ 10 ∷ 98 ∷ []) ≡ 97 ∷ []
unfolding utf8_valid_len is_utf8 chars encode_utf8
after_invalid_bytes = refl

-- Texts in UTF-8.
use Rattle.std.proofs.Common.{◌≡◌, ℕ, ◌+◌, ◌<◌, ◌≤◌, List, [], ◌∷◌, length, get_or, map, refl, sym, ap, ◌∙◌, arith}
use Rattle.std.specs.Char.{encode_utf8}
use Rattle.std.specs.Str.{chars, encode_utf8_all, IsUtf8}
use Rattle.std.proofs.lemmas.List.{get_or-map, length-append, length-map}
use Rattle.std.proofs.lemmas.List.Elements.{All-map}
use Rattle.std.proofs.lemmas.List.Sums.{sum_by-cons}
use Rattle.std.proofs.lemmas.Str.{encodes-chars, len_utf8_bounds, length-encode, length-le-encodes}
use Rattle.decoding.specs.Encodings.{in_utf8, utf8_text}
use Rattle.decoding.specs.Offsets.{Spelled, IsSpelledOut, code_units}

-- the bytes of characters
pub units_of_utf8 : (cs : List ℕ) → code_units (map in_utf8 cs) ≡ length (encode_utf8_all cs)
units_of_utf8 [] = refl
units_of_utf8 (c ∷ cs) =
    sum_by-cons (λ (x : Spelled). x.width) (in_utf8 c) (map in_utf8 cs)
    ∙ ap (λ n. length (encode_utf8 c) + n) (units_of_utf8 cs)
    ∙ sym (length-append (encode_utf8 c) (encode_utf8_all cs))

-- the code units of a text are its bytes
pub units_of_text : (bs : List ℕ) → IsUtf8 bs → code_units (utf8_text bs) ≡ length bs
units_of_text bs is = units_of_utf8 (chars bs) ∙ ap length (encodes-chars bs is)

-- a text has as many characters as its bytes spell
pub length-utf8_text : (bs : List ℕ) → length (utf8_text bs) ≡ length (chars bs)
length-utf8_text bs = length-map (chars bs) in_utf8

-- a text has no more characters than bytes
pub chars_le : (bs : List ℕ) → IsUtf8 bs → length (chars bs) ≤ length bs
chars_le bs is = let fewer = length-le-encodes (chars bs) in omega (arith, fewer, ap length (encodes-chars bs is))

-- a character that is read
pub read_utf8 : (bs : List ℕ) (k c : ℕ) → k < length (chars bs) → c ≡ get_or (chars bs) k c →
    in_utf8 c ≡ get_or (utf8_text bs) k (in_utf8 c)
read_utf8 bs k c lt is = ap in_utf8 is ∙ sym (get_or-map in_utf8 (chars bs) k c (in_utf8 c) lt)

-- each character takes at least one byte
pub utf8_spelled : (bs : List ℕ) → IsSpelledOut (utf8_text bs)
utf8_spelled bs = All-map (λ (s : Spelled). 0 < s.width) in_utf8 (chars bs)
    (λ k d lt. let some = len_utf8_bounds (get_or (chars bs) k d) in
    omega (arith, length-encode (get_or (chars bs) k d), some.0))

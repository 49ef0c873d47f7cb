-- The first character of bytes, and the text of the bytes after it.
use Rattle.std.proofs.Common.{◌≡◌, ℕ, zero, suc, ◌+◌, ◌<◌, true, false, List, [], ◌∷◌, ◌++◌, length, map, drop, take, refl, sym, ap, ◌∙◌, inl, inr, arith}
use Rattle.std.specs.Char.{IsScalar, encode_utf8}
use Rattle.std.specs.Str.{chars, is_utf8, IsUtf8, StartsWithNoChar}
use Rattle.std.specs.Str.Lossy.{after_first_chunk, utf8_error_len, utf8_invalid_len, utf8_valid_len, valid_len_up_to}
use Rattle.std.proofs.Math.Seq.{drop-append-add, take-append-add}
use Rattle.std.proofs.lemmas.Bool.{cases_Bool, false_from_ne_true, true≢false}
use Rattle.std.proofs.lemmas.List.{append-nil, length-append, take-append-drop}
use Rattle.std.proofs.lemmas.Str.{chars-append, chars-nil, chars_past_char, length-encode, len_utf8_bounds, IsUtf8-append, IsUtf8-encode, IsUtf8-nil, IsUtf8-past_char}
use Rattle.std.proofs.str.Lossy.{is_utf8-from_IsUtf8, IsUtf8-from_is_utf8, utf8_invalid_len_pos}
use Rattle.std.specs.Prelude.{None, Option, slice_index_or}
use Rattle.std.specs.Char.Utf16.{utf16_chars}
use Rattle.decoding.specs.Encodings.{in_utf8, utf8_text, IsUtf16}
use Rattle.decoding.specs.LossyTexts.{chunks, first_chunk, replaced, utf8_lossy_text}
use Rattle.decoding.specs.Offsets.{Spelled}
use Rattle.decoding.specs.Spelling.{IsSpelled}
use Rattle.decoding.proofs.LossyChunks.{lossy_step, replaced_some}
use Rattle.decoding.proofs.Utf8Tests.{first_fault}

-- the bytes are those of the first character and the rest
pub bytes_split : (bs : List ℕ) (c n : ℕ) → IsSpelled bs 0 (c, n) → bs ≡ encode_utf8 c ++ drop n bs
bytes_split bs c n is = sym (take-append-drop n bs) ∙ ap (λ (front : List ℕ). front ++ drop n bs) is.spelled

-- of well-formed bytes
pub utf8_first : (bs : List ℕ) (c n : ℕ) → IsUtf8 bs → IsSpelled bs 0 (c, n) →
    utf8_text bs ≡ in_utf8 c ∷ utf8_text (drop n bs)
utf8_first bs c n well is = ap (map in_utf8) (chars_past_char bs (drop n bs) c well (bytes_split bs c n is))

pub utf8_rest : (bs : List ℕ) (c n : ℕ) → IsUtf8 bs → IsSpelled bs 0 (c, n) → IsUtf8 (drop n bs)
utf8_rest bs c n well is = IsUtf8-past_char bs (drop n bs) c well (bytes_split bs c n is)

-- the longest front that is well formed
up_to_whole : (bs : List ℕ) (n : ℕ) → is_utf8 (take n bs) ≡ true → valid_len_up_to bs n ≡ n
up_to_whole bs zero t = refl
up_to_whole bs (suc n) t = rw t refl

up_to_next : (bs : List ℕ) (n : ℕ) → is_utf8 (take (suc n) bs) ≡ false →
    valid_len_up_to bs (suc n) ≡ valid_len_up_to bs n
up_to_next bs n f = rw f refl

-- the bytes after those of a character
module _ (c : ℕ) (scalar : IsScalar c) where
  same_test : (ys : List ℕ) → is_utf8 (encode_utf8 c ++ ys) ≡ is_utf8 ys
  same_test ys = elim (cases_Bool (is_utf8 ys)) [
    | inl t ↦ is_utf8-from_IsUtf8 (encode_utf8 c ++
        ys) (IsUtf8-append (encode_utf8 c) ys (IsUtf8-encode c scalar) (IsUtf8-from_is_utf8 ys t)) ∙ sym t
    | inr f ↦ false_from_ne_true (is_utf8 (encode_utf8 c ++ ys))
        (λ t. absurd (true≢false
        (sym (is_utf8-from_IsUtf8 ys (IsUtf8-past_char (encode_utf8 c ++
        ys) ys c (IsUtf8-from_is_utf8 (encode_utf8 c ++ ys) t) refl)) ∙ f))) ∙ sym f
  ]

  -- a front that ends after the character is well formed if and only if its rest is
  test_at : (rest : List ℕ) (n : ℕ) → is_utf8 (take (length (encode_utf8 c) + n) (encode_utf8 c ++ rest)) ≡
      is_utf8 (take n rest)
  test_at rest n = ap is_utf8 (take-append-add (encode_utf8 c) rest n) ∙ same_test (take n rest)

  up_to_after : (rest : List ℕ) (n : ℕ) → valid_len_up_to (encode_utf8 c ++ rest) (length (encode_utf8 c) + n) ≡
      length (encode_utf8 c) + valid_len_up_to rest n
  up_to_after rest zero = up_to_whole (encode_utf8 c ++ rest) (length (encode_utf8 c) + 0) (test_at rest 0 ∙
      is_utf8-from_IsUtf8 [] IsUtf8-nil)
  up_to_after rest (suc n) =
      let w = length (encode_utf8 c) in
      elim (cases_Bool (is_utf8 (take (suc n) rest))) [
        | inl t ↦ up_to_whole (encode_utf8 c ++ rest) (w + suc n) (test_at rest (suc n) ∙ t) ∙
            ap (λ (k : ℕ). w + k) (sym (up_to_whole rest (suc n) t))
        | inr f ↦
            let next : w + suc n ≡ suc (w + n) = omega arith in
            let less : is_utf8 (take (suc (w + n)) (encode_utf8 c ++ rest)) ≡ false =
            ap (λ (k : ℕ). is_utf8 (take k (encode_utf8 c ++ rest))) (sym next) ∙ test_at rest (suc n) ∙ f in
            ap (valid_len_up_to (encode_utf8 c ++ rest)) next ∙ up_to_next (encode_utf8 c ++ rest) (w + n) less ∙
            up_to_after rest n
            ∙ ap (λ (k : ℕ). w + k) (sym (up_to_next rest n f))
      ]

  valid_after : (rest : List ℕ) → utf8_valid_len (encode_utf8 c ++ rest) ≡ length (encode_utf8 c) + utf8_valid_len rest
  unfolding utf8_valid_len
  valid_after rest = ap (valid_len_up_to (encode_utf8 c ++ rest)) (length-append (encode_utf8 c) rest) ∙
      up_to_after rest (length rest)

  text_after : (ys : List ℕ) → utf8_text (encode_utf8 c ++ ys) ≡ in_utf8 c ∷ utf8_text ys
  text_after ys =
      let alone : chars (encode_utf8 c) ≡ c ∷ [] =
      chars_past_char (encode_utf8 c) [] c (IsUtf8-encode c scalar) (sym (append-nil (encode_utf8 c))) ∙
      ap (λ (cs : List ℕ). c ∷ cs) chars-nil in
      ap (map in_utf8) (chars-append (encode_utf8 c) ys (IsUtf8-encode c scalar) ∙
      ap (λ (cs : List ℕ). cs ++ chars ys) alone)

  chunk_after_char : (rest : List ℕ) → first_chunk (encode_utf8 c ++ rest) ≡ in_utf8 c ∷ first_chunk rest
  chunk_after_char rest =
      let bs = encode_utf8 c ++ rest in
      let w = length (encode_utf8 c) in
      let v = utf8_valid_len rest in
      ap (λ (n : ℕ). utf8_text (take n bs) ++ replaced (utf8_invalid_len (drop n bs))) (valid_after rest)
      ∙ ap (λ (front : List ℕ). utf8_text front ++ replaced (utf8_invalid_len (drop (w + v) bs)))
      (take-append-add (encode_utf8 c) rest v)
      ∙ ap (λ (ys : List ℕ). utf8_text (encode_utf8 c ++ take v rest) ++ replaced (utf8_invalid_len ys))
      (drop-append-add (encode_utf8 c) rest v)
      ∙ ap (λ (front : List Spelled). front ++ replaced (utf8_invalid_len (drop v rest))) (text_after (take v rest))

  rest_after_char : (rest : List ℕ) → after_first_chunk (encode_utf8 c ++ rest) ≡ after_first_chunk rest
  rest_after_char rest =
      let bs = encode_utf8 c ++ rest in
      let w = length (encode_utf8 c) in
      let v = utf8_valid_len rest in
      ap (λ (n : ℕ). drop (n + utf8_invalid_len (drop n bs)) bs) (valid_after rest)
      ∙ ap (λ (ys : List ℕ). drop (w + v + utf8_invalid_len ys) bs) (drop-append-add (encode_utf8 c) rest v)
      ∙ ap (λ (n : ℕ). drop n bs) {x = w + v + utf8_invalid_len (drop v rest)} {y =
      w + (v + utf8_invalid_len (drop v rest))} (omega arith)
      ∙ drop-append-add (encode_utf8 c) rest (v + utf8_invalid_len (drop v rest))

-- a text is its first chunk and the text of the rest, even if there is none
step_of_any : (bs : List ℕ) → first_chunk bs ++ utf8_lossy_text (after_first_chunk bs) ≡ utf8_lossy_text bs
unfolding chunks utf8_valid_len utf8_error_len chars
step_of_any [] = refl
step_of_any (b ∷ bs) = sym (lossy_step (b ∷ bs) (omega arith))

-- of bytes that may be ill formed
pub lossy_first : (bs : List ℕ) (c n : ℕ) → IsSpelled bs 0 (c, n) → utf8_lossy_text bs ≡ record {
  code = c;
  width =
      n;
} ∷ utf8_lossy_text (drop n bs)
lossy_first bs c n is =
    let rest = drop n bs in
    let same = bytes_split bs c n is in
    let some : 0 < length (encode_utf8 c ++ rest) = omega (
      arith,
      length-append (encode_utf8 c) rest,
      length-encode c,
      (len_utf8_bounds c).0,
    ) in
    let width : length (encode_utf8 c) ≡ n = omega (arith, is.following) in
    ap utf8_lossy_text same ∙ lossy_step (encode_utf8 c ++ rest) some
    ∙ ap (λ (t : List Spelled). t ++ utf8_lossy_text (after_first_chunk (encode_utf8 c ++ rest)))
    (chunk_after_char c is.scalar rest)
    ∙ ap (λ (ys : List ℕ). in_utf8 c ∷ (first_chunk rest ++ utf8_lossy_text ys)) (rest_after_char c is.scalar rest)
    ∙ ap (λ (t : List Spelled). in_utf8 c ∷ t) (step_of_any rest)
    ∙ ap (λ (k : ℕ). record { code = c; width = k } ∷ utf8_lossy_text rest) width

-- of bytes that begin no character: U+FFFD for the maximal subpart at their front
pub lossy_fault : (bs : List ℕ) (n : ℕ) → 0 < length bs → StartsWithNoChar bs → n ≡ utf8_invalid_len bs →
    utf8_lossy_text bs ≡ record { code = 0xFFFD; width = n } ∷ utf8_lossy_text (drop n bs)
lossy_fault bs n some none is =
    let valid : utf8_valid_len bs ≡ 0 = sym ((first_fault bs 0 some IsUtf8-nil none).1) in
    let wide : 0 < utf8_invalid_len bs = utf8_invalid_len_pos bs some in
    lossy_step bs some
    ∙ ap (λ (k : ℕ). (utf8_text (take k bs) ++ replaced (utf8_invalid_len (drop k bs))) ++
    utf8_lossy_text (drop (k + utf8_invalid_len (drop k bs)) bs)) valid
    ∙ ap (λ (cs : List ℕ). (map in_utf8 cs ++ replaced (utf8_invalid_len bs)) ++
    utf8_lossy_text (drop (0 + utf8_invalid_len bs) bs)) chars-nil
    ∙ ap (λ (k : ℕ). replaced (utf8_invalid_len bs) ++ utf8_lossy_text (drop k bs)) {x = 0 + utf8_invalid_len bs} {y =
    utf8_invalid_len bs} (omega arith)
    ∙ ap (λ (t : List Spelled). t ++ utf8_lossy_text (drop (utf8_invalid_len bs) bs))
    (replaced_some (utf8_invalid_len bs) wide)
    ∙ ap (λ (k : ℕ). record { code = 0xFFFD; width = k } ∷ utf8_lossy_text (drop k bs)) (sym is)

-- a character is spelled by some bytes
pub some_width : (bs : List ℕ) (c n : ℕ) → IsSpelled bs 0 (c, n) → 0 < n
some_width bs c n is = omega (arith, is.following, length-encode c, (len_utf8_bounds c).0)

-- bytes that begin no character are not well formed, and the maximal subpart at their front ends where the test stops
pub no_text : (bs : List ℕ) → 0 < length bs → StartsWithNoChar bs → IsUtf8 bs → ⊥
no_text bs some none = (first_fault bs 0 some IsUtf8-nil none).0

pub fault_at_front : (bs : List ℕ) (valid : ℕ) (len : Option ℕ) → 0 < length bs → StartsWithNoChar bs →
    valid ≡ utf8_valid_len bs → len ≡ utf8_error_len (drop valid bs) → len ≡ utf8_error_len bs
fault_at_front bs valid len some none is reported =
    reported ∙ ap (λ (n : ℕ). utf8_error_len (drop n bs)) (is ∙ sym ((first_fault bs 0 some IsUtf8-nil none).1))

pub some_fault : (bs : List ℕ) (n : ℕ) → 0 < length bs → n ≡ utf8_invalid_len bs → 0 < n
some_fault bs n some is = omega (arith, utf8_invalid_len_pos bs some, is)

-- code units of 16 bits after the first character are well formed if all are
pub utf16_rest : (units rest : List ℕ) (found : Option ℕ) → utf16_chars units ≡ found ∷ utf16_chars rest →
    IsUtf16 units → IsUtf16 rest
utf16_rest units rest found is well k lt none =
    well (suc k) (omega (arith, ap length is, lt)) (ap (λ (cs : List (Option ℕ)). slice_index_or cs (suc k) None) is ∙
    none)

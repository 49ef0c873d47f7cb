-- Texts in UTF-8 that may be ill-formed, chunk by chunk.
use Rattle.std.proofs.Common.{◌≡◌, ℕ, zero, suc, ◌+◌, ◌-◌, ◌<◌, ◌≤◌, List, [], ◌∷◌, ◌++◌, length, drop, take, refl, sym, subst, ap, ◌∙◌, inl, inr, arith}
use Rattle.std.specs.Prelude.{slice_index_or}
use Rattle.std.specs.Str.{chars}
use Rattle.std.specs.Str.Lossy.{after_first_chunk, utf8_error_len, utf8_invalid_len, utf8_valid_len}
use Rattle.std.proofs.lemmas.Bool.{cases_lt}
use Rattle.std.proofs.lemmas.List.{drop-drop, drop_all, length-append, length-drop, take-append-le, take_all}
use Rattle.std.proofs.lemmas.List.Elements.{All-append}
use Rattle.std.proofs.str.Lossy.{length-after_first_chunk, utf8_invalid_len_pos, utf8_valid_len_le}
use Rattle.decoding.specs.Encodings.{utf8_text}
use Rattle.decoding.specs.LossyTexts.{chunks, first_chunk, replaced, utf8_lossy_text}
use Rattle.decoding.specs.Offsets.{Spelled, IsSpelledOut}
use Rattle.decoding.proofs.Utf8Texts.{utf8_spelled}

-- U+FFFD for some bytes
pub replaced_some : (n : ℕ) → 0 < n → replaced n ≡ record { code = 0xFFFD; width = n } ∷ []
replaced_some zero some = absurd (omega (arith, some))
replaced_some (suc n) some = refl

-- the text of no bytes is empty
pub chunks_none : (k : ℕ) → chunks k [] ≡ []
unfolding chunks utf8_valid_len utf8_error_len chars
chunks_none zero = refl
chunks_none (suc k) = chunks_none k

-- a chunk takes at least one byte if there is one
shorter : (bs : List ℕ) → 0 < length bs → length (after_first_chunk bs) < length bs
shorter bs some =
    let n = utf8_valid_len bs in
    let within = utf8_valid_len_le bs in
    let remaining = length-drop (n + utf8_invalid_len (drop n bs)) bs in
    elim (cases_lt n (length bs)) [
      | inl below ↦ length-after_first_chunk bs (λ e. omega (arith, below, e))
      | inr above ↦ omega (arith, remaining, above, some)
    ]

-- the text is the same for each number of chunks from the number of bytes on
chunks_any : (j k : ℕ) (bs : List ℕ) → length bs ≤ j → length bs ≤ k → chunks j bs ≡ chunks k bs
unfolding chunks
chunks_any j k [] p q = chunks_none j ∙ sym (chunks_none k)
chunks_any zero k (b ∷ bs) p q = absurd (omega (arith, p))
chunks_any (suc j) zero (b ∷ bs) p q = absurd (omega (arith, q))
chunks_any (suc j) (suc k) (b ∷ bs) p q =
    let less = shorter (b ∷ bs) (omega arith) in
    ap (λ (t : List Spelled). first_chunk (b ∷ bs) ++ t) (chunks_any j k (after_first_chunk (b ∷ bs)) (omega (
      arith,
      less,
      p,
    )) (omega (arith, less, q)))

-- a text is its first chunk and the text of the rest
pub lossy_step : (bs : List ℕ) → 0 < length bs →
    utf8_lossy_text bs ≡ first_chunk bs ++ utf8_lossy_text (after_first_chunk bs)
unfolding chunks
lossy_step bs some =
    let less = shorter bs some in
    chunks_any (length bs) (suc (length bs)) bs (omega arith) (omega arith)
    ∙ ap (λ (t : List Spelled). first_chunk bs ++
    t) (chunks_any (length bs) (length (after_first_chunk bs)) (after_first_chunk bs) (omega (arith, less))
    (omega arith))

-- the bytes are a well-formed part, an ill-formed part after it, and the rest
pub record IsChunk (bs valid invalid rest : List ℕ) : Type 0 where
  pub parts : bs ≡ valid ++ (invalid ++ rest)
  pub valid_len : length valid ≡ utf8_valid_len bs
  pub invalid_len : length invalid ≡ utf8_invalid_len (drop (utf8_valid_len bs) bs)

-- the text of a chunk
pub chunk_text : (bs valid invalid rest : List ℕ) → IsChunk bs valid invalid rest →
    first_chunk bs ≡ utf8_text valid ++ replaced (length invalid)
chunk_text bs valid invalid rest c =
    let front : take (utf8_valid_len bs) bs ≡ valid =
    ap (take (utf8_valid_len bs)) c.parts ∙
    take-append-le (utf8_valid_len bs) valid (invalid ++ rest) (omega (arith, c.valid_len)) ∙
    take_all (utf8_valid_len bs) valid (omega (arith, c.valid_len)) in
    ap (λ (v : List ℕ). utf8_text v ++ replaced (utf8_invalid_len (drop (utf8_valid_len bs) bs))) front
    ∙ ap (λ (n : ℕ). utf8_text valid ++ replaced n) (sym c.invalid_len)

-- the bytes after a chunk, by the offset in all bytes
pub chunk_after : (bytes valid invalid rest : List ℕ) (at : ℕ) → IsChunk (drop at bytes) valid invalid rest
    → after_first_chunk (drop at bytes) ≡ drop (at + length valid + length invalid) bytes
chunk_after bytes valid invalid rest at c =
    let bs = drop at bytes in
    drop-drop (utf8_valid_len bs + utf8_invalid_len (drop (utf8_valid_len bs) bs)) at bytes ∙
    ap (λ (n : ℕ). drop n bytes) (omega (arith, c.valid_len, c.invalid_len))

-- a chunk has a byte, and ends with the bytes or before
pub record IsWithin (at len valid invalid : ℕ) : Type 0 where
  pub some : 0 < valid + invalid
  pub inside : at + valid + invalid ≤ len

chunk_some : (bs valid invalid rest : List ℕ) → 0 < length bs → IsChunk bs valid invalid rest →
    0 < length valid + length invalid
chunk_some bs valid invalid rest some c = elim (cases_lt 0 (utf8_valid_len bs)) [
  | inl below ↦ omega (arith, below, c.valid_len)
  | inr above ↦
      let none : utf8_valid_len bs ≡ 0 = omega (arith, above) in
      let fault : 0 < utf8_invalid_len (drop (utf8_valid_len bs) bs) =
      utf8_invalid_len_pos (drop (utf8_valid_len bs) bs) (omega (
        arith,
        length-drop (utf8_valid_len bs) bs,
        none,
        some,
      )) in
      omega (arith, fault, c.invalid_len)
]

pub chunk_within : (bytes valid invalid rest : List ℕ) (at : ℕ) → at < length bytes →
    IsChunk (drop at bytes) valid invalid rest → IsWithin at (length bytes) (length valid) (length invalid)
chunk_within bytes valid invalid rest at remaining c =
    let len = length-drop at bytes in
    record {
      some = chunk_some (drop at bytes) valid invalid rest (omega (arith, len, remaining)) c;
      inside = omega (
        arith,
        ap length c.parts,
        length-append valid (invalid ++ rest),
        length-append invalid rest,
        len,
        remaining,
      );
    }

-- what the iterator returned as a chunk of the bytes from an offset on is a chunk
pub chunk_from : (bytes : List ℕ) (at : ℕ) (remaining valid given invalid reported rest : List ℕ) →
    remaining ≡ take (length bytes - at) (drop at bytes) → given ≡ valid → reported ≡ invalid
    → remaining ≡ valid ++ (invalid ++ rest) → length valid ≡ utf8_valid_len remaining →
    length invalid ≡ utf8_invalid_len (drop (utf8_valid_len remaining) remaining) →
    IsChunk (drop at bytes) given reported rest
chunk_from bytes at remaining valid given invalid reported rest is_remaining is_valid is_invalid parts valid_len
    invalid_len =
    let all = take_all (length bytes - at) (drop at bytes) (omega (arith, length-drop at bytes)) in
    subst (λ (x : List ℕ). IsChunk x given reported rest) (is_remaining ∙ all)
    (subst (λ (x : List ℕ). IsChunk remaining x reported rest) (sym is_valid)
    (subst (λ (x : List ℕ). IsChunk remaining valid x rest) (sym is_invalid) (record {
      parts = parts;
      valid_len =
          valid_len;
      invalid_len = invalid_len;
    })))

-- each of the characters takes at least one byte
replaced_spelled : (n : ℕ) → IsSpelledOut (replaced n)
replaced_spelled zero = λ k d lt. absurd (omega (arith, lt))
replaced_spelled (suc n) = λ k d lt. subst (λ (i : ℕ). 0 < (slice_index_or (replaced (suc n)) i d).width) {x = 0} {y =
    k} (omega (arith, lt)) (omega arith)

chunks_spelled : (k : ℕ) (bs : List ℕ) → IsSpelledOut (chunks k bs)
unfolding chunks
chunks_spelled zero bs = λ k d lt. absurd (omega (arith, lt))
chunks_spelled (suc k) bs =
    let n = utf8_valid_len bs in
    let P : Spelled → Type 0 = λ s. 0 < s.width in
    All-append P (first_chunk bs) (chunks k (after_first_chunk bs))
    (All-append P (utf8_text (take n bs)) (replaced (utf8_invalid_len (drop n bs))) (utf8_spelled (take n bs))
    (replaced_spelled (utf8_invalid_len (drop n bs))))
    (chunks_spelled k (after_first_chunk bs))

pub lossy_spelled : (bs : List ℕ) → IsSpelledOut (utf8_lossy_text bs)
lossy_spelled bs = chunks_spelled (length bs) bs

-- no text remains at the end of the bytes
pub lossy_end : (bytes : List ℕ) (at : ℕ) → length bytes ≤ at → utf8_lossy_text (drop at bytes) ≡ []
unfolding chunks
lossy_end bytes at past = ap utf8_lossy_text (drop_all at bytes past)

-- Bytes that may be ill-formed, read chunk by chunk.
use Rattle.std.proofs.Common.{◌≡◌, ℕ, ◌+◌, ◌<◌, ◌≤◌, List, ◌++◌, length, drop, subst, sym, ap, ◌∙◌, arith}
use Rattle.std.proofs.lemmas.List.{append-nil, append_assoc, length-drop}
use Rattle.units.specs.declared.bracket.Unit.{Unit as BidiUnit}
use Rattle.ucdfiles.specs.Tables.{TablesOf}
use Rattle.decoding.specs.Decoded.{IsReadTo, IsWritten}
use Rattle.decoding.specs.Encodings.{utf8_text}
use Rattle.decoding.specs.LossyTexts.{first_chunk, replaced, utf8_lossy_text}
use Rattle.decoding.specs.Offsets.{Spelled}
use Rattle.decoding.specs.declared.reached.Reached.{Reached}
use Rattle.decoding.proofs.LossyChunks.{IsChunk, chunk_after, chunk_text, lossy_end, lossy_step}

-- one chunk more
pub read_chunk : (tables : TablesOf) (bytes : List ℕ) (front : List Spelled) (valid invalid rest : List ℕ)
    (before after : Reached)
    (units units_then : List BidiUnit) (starts starts_then : List ℕ) → before.code_units < length bytes →
    IsChunk (drop before.code_units bytes) valid invalid rest
    → after.code_units ≡ before.code_units + length valid + length invalid →
    IsReadTo tables bytes front before units starts
    → IsWritten tables ((front ++ utf8_text valid) ++ replaced (length invalid)) after units_then starts_then
    → IsReadTo tables bytes (front ++ first_chunk (drop before.code_units bytes)) after units_then starts_then
read_chunk tables bytes front valid invalid rest before after units units_then starts starts_then remaining chunk is r w
    =
    let bs = drop before.code_units bytes in
    let some : 0 < length bs = omega (arith, remaining, length-drop before.code_units bytes) in
    record {
      written = subst (λ (xs : List Spelled). IsWritten tables xs after units_then starts_then)
          (append_assoc front (utf8_text valid) (replaced (length invalid)) ∙
          ap (λ (xs : List Spelled). front ++ xs) (sym (chunk_text bs valid invalid rest chunk))) w;
      rest = r.rest
          ∙ ap (λ (xs : List Spelled). front ++ xs) (lossy_step bs some ∙
          ap (λ (ys : List ℕ). first_chunk bs ++
          utf8_lossy_text ys) (chunk_after bytes valid invalid rest before.code_units chunk ∙
          ap (λ (n : ℕ). drop n bytes) (sym is)))
          ∙ sym (append_assoc front (first_chunk bs) (utf8_lossy_text (drop after.code_units bytes)));
    }

-- the characters read up to the end are the whole text
pub read_whole : (tables : TablesOf) (bytes : List ℕ) (front : List Spelled) (reached : Reached) (units : List BidiUnit)
    (starts : List ℕ)
    → length bytes ≤ reached.code_units → IsReadTo tables bytes front reached units starts →
    utf8_lossy_text bytes ≡ front
read_whole tables bytes front reached units starts past r =
    r.rest ∙ ap (λ (xs : List Spelled). front ++ xs) (lossy_end bytes reached.code_units past) ∙ append-nil front

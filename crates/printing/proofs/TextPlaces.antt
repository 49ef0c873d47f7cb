-- Places in a text, after more and more of its bytes.
use Rattle.std.proofs.Common.{◌≡◌, ℕ, ◌+◌, ◌≤◌, cond, List, ◌++◌, length, take, ap, sym, ◌∙◌, arith, length-append}
use Rattle.std.specs.List.{count_by}
use Rattle.std.proofs.lemmas.List.{length-take, take-take}
use Rattle.std.proofs.lemmas.List.Sums.{sum_by-append}
use Rattle.std.proofs.lemmas.Str.{utf8_valid_len_le}
use Rattle.std.specs.Str.Lossy.{utf8_valid_len}
use Rattle.printing.specs.ReadTexts.{utf8_front}
use Rattle.printing.specs.TextPlaces.{ends_line, place_after}
use Rattle.printing.specs.declared.place.TextPlace.{TextPlace}
use Rattle.printing.proofs.ReadBytesLemmas.{length_front}

-- the next place comes after the place, with these bytes between them
pub record IsAfter (place next : TextPlace) (bytes : List ℕ) : Type 0 where
  pub line : next.line ≡ place.line + count_by ends_line bytes
  pub offset : next.offset ≡ place.offset + length bytes

-- the number of lines that end in both
count_more : (front bytes : List ℕ) →
    count_by ends_line (front ++ bytes) ≡ count_by ends_line front + count_by ends_line bytes
count_more front bytes = sum_by-append (λ b. cond (ends_line b) 1 0) front bytes

place_at : ℕ → ℕ → TextPlace
place_at line offset = record { line = line; offset = offset }

pub after_more : (place next : TextPlace) (front bytes : List ℕ) → place ≡ place_after front →
    IsAfter place next bytes → next ≡ place_after (front ++ bytes)
unfolding place_at
after_more place next front bytes e after =
    let line : next.line ≡ count_by ends_line (front ++ bytes) + 1 =
    omega (arith, after.line, ap (λ (p : TextPlace). p.line) e, count_more front bytes) in
    let offset : next.offset ≡ length (front ++ bytes) =
    omega (arith, after.offset, ap (λ (p : TextPlace). p.offset) e, length-append front bytes) in
    ap (λ n. place_at n next.offset) line ∙ ap (λ n. place_at (count_by ends_line (front ++ bytes) + 1) n) offset

-- the bytes of a buffer that were taken are the longest front of those in it
pub taken_is : (buffer : List ℕ) (filled taken : ℕ) → filled ≤ length buffer →
    taken ≡ length (utf8_front (take filled buffer))
    → take taken buffer ≡ utf8_front (take filled buffer)
taken_is buffer filled taken within e =
    let n = utf8_valid_len (take filled buffer) in
    let same : taken ≡ n = e ∙ length_front (take filled buffer) in
    let short : n ≤ filled = omega (arith, utf8_valid_len_le (take filled buffer), length-take filled buffer) in
    ap (λ k. take k buffer) same ∙ sym (take-take n filled buffer short)

-- so the place after the taken bytes is the place after that front
pub passed_is : (place next : TextPlace) (buffer : List ℕ) (filled taken : ℕ) → filled ≤ length buffer →
    taken ≡ length (utf8_front (take filled buffer))
    → next.line ≡ place.line + count_by ends_line (take taken buffer) →
    next.offset ≡ place.offset + length (take taken buffer)
    → IsAfter place next (utf8_front (take filled buffer))
passed_is place next buffer filled taken within e line offset =
    let same = taken_is buffer filled taken within e in
    record {
      line = line ∙ ap (λ xs. place.line + count_by ends_line xs) same;
      offset = offset ∙ ap (λ xs. place.offset + length xs) same;
    }

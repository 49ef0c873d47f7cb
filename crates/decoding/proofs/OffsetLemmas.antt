-- Offsets of characters.
use Rattle.std.proofs.Common.{◌≡◌, ℕ, zero, suc, ◌+◌, ◌<◌, ◌≤◌, List, [], ◌∷◌, ◌++◌, length, get_or, take, sym, ap, ◌∙◌, inl, inr, arith}
use Rattle.std.proofs.lemmas.Bool.{cases_lt}
use Rattle.std.proofs.lemmas.List.{get_or-take, take-append-le, take_all}
use Rattle.std.proofs.lemmas.List.Sums.{sum_by-cons, sum_by_more, sum_by-take-le}
use Rattle.decoding.specs.Offsets.{Spelled, AreStarts, IsSpelledOut, code_units, offset_of}
use Rattle.decoding.specs.Starts.{AreOffsets}

-- characters after the front do not change the offsets in it
pub offset-front : (front back : List Spelled) (k : ℕ) → k ≤ length front →
    offset_of (front ++ back) k ≡ offset_of front k
offset-front front back k le = ap code_units (take-append-le k front back le)

-- the offset of the end
pub offset-end : (text : List Spelled) → offset_of text (length text) ≡ code_units text
offset-end text = ap code_units (take_all (length text) text (omega arith))

-- the offset of the first character after a front
pub offset-following : (front back : List Spelled) → offset_of (front ++ back) (length front) ≡ code_units front
offset-following front back = offset-front front back (length front) (omega arith) ∙ offset-end front

-- one character more
pub offset_more : (text : List Spelled) (k : ℕ) (s : Spelled) → k < length text → s ≡ get_or text k s →
    offset_of text (k + 1) ≡ offset_of text k + s.width
offset_more text k s lt is = sum_by_more (λ (x : Spelled). x.width) text k s lt ∙
    ap (λ (x : Spelled). offset_of text k + x.width) (sym is)

-- no offset is past the end
pub offset_le : (text : List Spelled) (k : ℕ) → offset_of text k ≤ code_units text
offset_le text k = sum_by-take-le (λ (x : Spelled). x.width) text k

-- the offsets of a text rise
offset_rises : (text : List Spelled) → IsSpelledOut text → (j k : ℕ) → j < k → k ≤ length text →
    offset_of text j < offset_of text k
offset_rises text spelled j zero lt le = absurd (omega (arith, lt))
offset_rises text spelled j (suc k) lt le =
    let none : Spelled = record { code = 0; width = 0 } in
    let more : offset_of text (k + 1) ≡ offset_of text k + (get_or text k none).width =
    sum_by_more (λ (x : Spelled). x.width) text k none (omega (arith, le)) in
    let wide : 0 < (get_or text k none).width = spelled k none (omega (arith, le)) in
    let next : offset_of text (suc k) ≡ offset_of text (k + 1) =
    ap (offset_of text) {x = suc k} {y = k + 1} (omega arith) in
    elim (cases_lt j k) [
      | inl below ↦ let under : offset_of text j < offset_of text k =
          offset_rises text spelled j k below (omega (arith, le)) in omega (arith, more, wide, next, under)
      | inr above ↦ let same : offset_of text j ≡ offset_of text k =
          ap (offset_of text) {x = j} {y = k} (omega (arith, above, lt)) in omega (arith, more, wide, next, same)
    ]

pub offsets_of_text : (text : List Spelled) (starts : List ℕ) → IsSpelledOut text → AreStarts text starts →
    length text < length starts → AreOffsets (length text) starts
offsets_of_text text starts spelled at room = record {
  inside = room;
  first = at 0 (omega arith);
  rising = λ j k lt le. let rise : offset_of text j < offset_of text k = offset_rises text spelled j k lt le in
      omega (arith, rise, at j (omega (arith, lt, le)), at k le);
}

-- the offsets at the front of a column
pub starts_front : (text : List Spelled) (starts : List ℕ) (n : ℕ) → n ≡ length text + 1 → AreStarts text starts →
    AreStarts text (take n starts)
starts_front text starts n is at = λ k le. get_or-take n starts k 0 (omega (arith, is, le)) ∙ at k le

-- there are no more characters than code units
pub few_characters : (text : List Spelled) → IsSpelledOut text → length text ≤ code_units text
few_characters [] spelled = omega arith
few_characters (s ∷ text) spelled =
    let wide : 0 < s.width = spelled 0 s (omega arith) in
    omega (
      arith,
      wide,
      sum_by-cons (λ (x : Spelled). x.width) s text,
      few_characters text (λ k d lt. spelled (suc k) d (omega (arith, lt))),
    )

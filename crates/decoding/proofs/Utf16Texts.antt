-- Texts in UTF-16.
use Rattle.std.proofs.Common.{◌≡◌, ℕ, ◌+◌, ◌-◌, ◌/◌, ◌%◌, ◌<◌, ◌≤◌, List, [], ◌∷◌, cond, length, get_or, drop, take, map, sym, ap, ◌∙◌, inl, inr, arith}
use Rattle.std.specs.Prelude.{Option, None, Some, slice_index_or}
use Rattle.std.specs.Option.{unwrap_or, IsSome, SomeIff}
use Rattle.std.specs.Char.Escape.{encode_utf16}
use Rattle.std.specs.Char.Utf16.{utf16_chars, utf16_lossy_chars}
use Rattle.std.proofs.lemmas.Bool.{cases_lt}
use Rattle.std.proofs.lemmas.List.{get_or-map, get_or-drop, length-drop, length-map, drop-drop, take_all}
use Rattle.std.proofs.lemmas.List.Elements.{All-map}
use Rattle.std.proofs.str.Utf16.{utf16_chars-drop_all}
use borrow.Author.Tests.{lt-ltb, le-ltb}
use Rattle.decoding.specs.Encodings.{in_utf16, utf16_text, IsAt}
use Rattle.decoding.specs.Offsets.{Spelled, IsSpelledOut, code_units}
use Rattle.decoding.proofs.OffsetLemmas.{offset_more}

-- a character below 2 ^ 16 takes one code unit, the others two
pub one_unit : (c : ℕ) → c < 65536 → length (encode_utf16 c) ≡ 1
one_unit c p = ap (λ b. length (cond b (c ∷ []) ((55296 + (c - 65536) / 1024) ∷ (56320 + (c - 65536) % 1024) ∷ [])))
    (lt-ltb c 65536 p)

pub two_units : (c : ℕ) → 65536 ≤ c → length (encode_utf16 c) ≡ 2
two_units c p = ap (λ b. length (cond b (c ∷ []) ((55296 + (c - 65536) / 1024) ∷ (56320 + (c - 65536) % 1024) ∷ [])))
    (le-ltb c 65536 p)

-- each character takes one code unit or two
pub utf16_spelled : (units : List ℕ) → IsSpelledOut (utf16_text units)
utf16_spelled units = All-map (λ (s : Spelled). 0 < s.width) in_utf16 (utf16_lossy_chars units)
    (λ k d lt. let x = get_or (utf16_lossy_chars units) k d in elim (cases_lt x 65536) [
      | inl below ↦ omega (arith, one_unit x below)
      | inr above ↦ omega (arith, two_units x above)
    ])

-- the optional character is this one if it is some
pub is_value : (r : Option ℕ) (P : Type 0) (v : ℕ) → SomeIff r P v → IsSome r → Some v ≡ r
is_value None P v h some = cc
is_value (Some x) P v h some = ap Some (sym h.1)

-- the first of the remaining elements
pub front_of_rest : {X : Type 0} (xs ys : List X) (n : ℕ) (x d : X) → drop n xs ≡ x ∷ ys →
    (n < length xs) × (get_or xs n d ≡ x) × (drop (n + 1) xs ≡ ys)
front_of_rest xs ys n x d is = (
  omega (arith, length-drop n xs, ap length is),
  ap (λ k. get_or xs k d) {x = n} {y = n + 0} (omega arith) ∙ sym (get_or-drop n xs 0 d) ∙ ap (λ zs. get_or zs 0 d) is,
  sym (drop-drop 1 n xs) ∙ ap (drop 1) is,
)

-- the next character and the offset after it
pub record IsNext (units : List ℕ) (count at : ℕ) (found : Option ℕ) (following : ℕ) : Type 0 where
  pub within : count < length (utf16_text units)
  pub read : in_utf16 (unwrap_or found 0xFFFD) ≡ get_or (utf16_text units) count (in_utf16 (unwrap_or found 0xFFFD))
  pub spelled : slice_index_or (utf16_chars units) count None ≡ found
  pub later : IsAt units (count + 1) following

pub at_next : (units : List ℕ) (count at : ℕ) (found : Option ℕ) (following : ℕ) →
    utf16_chars (drop at units) ≡ found ∷ utf16_chars (drop following units)
    → following ≡ at + length (encode_utf16 (unwrap_or found 0xFFFD)) → at < following → following ≤ length units →
    IsAt units count at → IsNext units count at found following
at_next units count at found following first after forward inside now =
    let front = front_of_rest (utf16_chars units) (utf16_chars (drop following units)) count found None (now.rest ∙
    first) in
    let value : Option ℕ → Spelled = λ o. in_utf16 (unwrap_or o 0xFFFD) in
    let codes : List ℕ = map (λ (o : Option ℕ). unwrap_or o 0xFFFD) (utf16_chars units) in
    let known : count < length codes =
    omega (arith, front.0, length-map (utf16_chars units) (λ (o : Option ℕ). unwrap_or o 0xFFFD)) in
    let within : count < length (utf16_text units) = omega (arith, known, length-map codes in_utf16) in
    let code : get_or codes count 0xFFFD ≡ unwrap_or found 0xFFFD =
    get_or-map (λ (o : Option ℕ). unwrap_or o 0xFFFD) (utf16_chars units) count None 0xFFFD front.0 ∙
    ap (λ (o : Option ℕ). unwrap_or o 0xFFFD) front.1 in
    let read : in_utf16 (unwrap_or found 0xFFFD) ≡ get_or (utf16_text units) count (in_utf16 (unwrap_or found 0xFFFD)) =
    ap in_utf16 (sym code) ∙ sym (get_or-map in_utf16 codes count 0xFFFD (in_utf16 (unwrap_or found 0xFFFD)) known) in
    record {
      within = within;
      read = read;
      spelled = front.1;
      later = record {
        rest = front.2;
        offset = after ∙ ap (λ n. n + length (encode_utf16 (unwrap_or found 0xFFFD))) now.offset ∙
            sym (offset_more (utf16_text units) count (in_utf16 (unwrap_or found 0xFFFD)) within read);
        few = omega (arith, now.few, forward);
        inside = inside;
      };
    }

-- a text has as many characters as its code units spell
pub length-utf16_text : (units : List ℕ) → length (utf16_text units) ≡ length (utf16_chars units)
length-utf16_text units =
    length-map (map (λ (o : Option ℕ). unwrap_or o 0xFFFD) (utf16_chars units)) in_utf16 ∙
    length-map (utf16_chars units) (λ (o : Option ℕ). unwrap_or o 0xFFFD)

-- the end of the code units is that of the characters
pub at_end : (units : List ℕ) (count at : ℕ) → length units ≤ at → IsAt units count at →
    length (utf16_chars units) ≤ count
at_end units count at past now =
    let none = now.rest ∙ utf16_chars-drop_all units at past in
    let remaining = length-drop count (utf16_chars units) in
    omega (arith, remaining, ap length none)

pub whole_text : (units : List ℕ) (count at : ℕ) → length units ≤ at → IsAt units count at →
    take count (utf16_text units) ≡ utf16_text units
whole_text units count at past now =
    take_all count (utf16_text units) (omega (arith, length-utf16_text units, at_end units count at past now))

-- the code units of a text are those that were read
pub units_of_utf16 : (units : List ℕ) (count at : ℕ) → length units ≤ at → IsAt units count at →
    code_units (utf16_text units) ≡ length units
units_of_utf16 units count at past now = ap code_units (sym (whole_text units count at past now)) ∙ sym now.offset ∙
    omega (arith, past, now.inside)

-- some character is not none
pub is_some : (c : ℕ) → Some c ≡ None → ⊥
is_some c e = cc

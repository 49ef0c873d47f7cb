-- Blocks of code units of 16 bits without surrogates.
use Rattle.std.proofs.Common.{◌≡◌, ℕ, zero, suc, ◌+◌, ◌/◌, ◌%◌, ◌^◌, ◌<◌, ◌≤◌, ◌⊎◌, Bool, true, false, cond, eqb, List, [], ◌∷◌, ◌++◌, length, get_or, map, take, drop, replicate, refl, sym, ap, subst, ◌∙◌, inl, inr, arith, eqb-true}
use Rattle.std.specs.Prelude.{Some}
use Rattle.std.specs.Char.Utf16.{lone_unit_char, utf16_chars}
use Rattle.std.proofs.lemmas.Bool.{cases_eq, cases_lt, eqb-false}
use Rattle.std.proofs.lemmas.List.{append-nil, append_assoc, get_or-drop, get_or-map, get_or-take, length-drop, length-map, length-take-le, map-append, take_more}
use Rattle.std.proofs.lemmas.Simd.{bitmask_splat, zip2_splat}
use Rattle.std.proofs.str.Utf16.{lone_unit_char_low, lone_unit_char_high, utf16_chars-drop_lone}
use lib.Lanes.{mask_l, top, zip2}
use mir.Syntax.{w16}
use Rattle.decoding.specs.Encodings.{in_one_unit, in_utf16, utf16_text, AreNoSurrogates, IsAt, IsPaired}
use Rattle.decoding.specs.Offsets.{Spelled, offset_of}
use Rattle.decoding.proofs.Utf16Texts.{at_next, is_some, one_unit}

-- no lane passes a test if no bit of the mask is set
none_set : (p : ℕ → Bool) (xs : List ℕ) → mask_l (map p xs) ≡ 0 → (i : ℕ) → i < length xs → p (get_or xs i 0) ≡ false
none_set p [] e i lt = absurd (omega (arith, lt))
none_set p (x ∷ xs) e zero lt = go (p x) refl (omega (arith, e))
  where
    go : (t : Bool) → p x ≡ t → ◌≡◌ {A = ℕ} (cond (p x) 1 0) 0 → p x ≡ false
    go true is none = absurd (omega (arith, ap {B = ℕ} (λ b. cond b 1 0) is, none))
    go false is none = is
none_set p (x ∷ xs) e (suc i) lt = none_set p xs (omega (arith, e)) i (omega (arith, lt))

-- the value of a lane of the comparison, and of the shift
abbrev pub same : ℕ → ℕ → ℕ
same a b = cond (eqb a b) 65535 0

abbrev pub shifted : ℕ → ℕ → ℕ
shifted a b = a / 2 ^ b

no_surrogate : (x : ℕ) → (x / 2048 ≡ 27 → ⊥) → (x < 0xD800) ⊎ (0xE000 ≤ x)
no_surrogate x other = elim (cases_lt x 0xD800) [
  | inl below ↦ inl below
  | inr above ↦ inr (omega (arith, above, other))
]

-- no lane of a block is a surrogate
pub no_surrogates_of_mask : (xs : List ℕ) → length xs ≡ 8 →
    eqb (mask_l (map (top 15) (zip2 same (zip2 shifted xs (replicate 8 11)) (replicate 8 27))) % 2 ^ 64) 0 ≡ true →
    AreNoSurrogates xs
no_surrogates_of_mask xs long e k lt =
    let shift : zip2 shifted xs (replicate 8 11) ≡ map (λ x. x / 2048) xs = zip2_splat shifted xs 8 11 long in
    let size : length (map (λ (x : ℕ). x / 2048) xs) ≡ 8 = length-map xs (λ (x : ℕ). x / 2048) ∙ long in
    let none : mask_l (map (λ x. eqb x 27) (map (λ x. x / 2048) xs)) ≡ 0 =
    sym (bitmask_splat w16 eqb (map (λ x. x / 2048) xs) 8 27 size (omega arith))
    ∙ ap (λ (ys : List ℕ). mask_l (map (top 15) (zip2 same ys (replicate 8 27))) % 2 ^ 64) (sym shift)
    ∙ eqb-true _ _ e in
    let here : get_or (map (λ (x : ℕ). x / 2048) xs) k 0 ≡ get_or xs k 0 / 2048 =
    get_or-map (λ (x : ℕ). x / 2048) xs k 0 0 lt in
    let off : eqb (get_or (map (λ (x : ℕ). x / 2048) xs) k 0) 27 ≡ false =
    none_set (λ x. eqb x 27) (map (λ x. x / 2048) xs) none k (omega (arith, lt, long, size)) in
    no_surrogate (get_or xs k 0) (λ is. eqb-false _ _ off (here ∙ is))

-- a code unit that is no surrogate is a character
alone : (u : ℕ) → (u < 0xD800) ⊎ (0xE000 ≤ u) → lone_unit_char u ≡ Some u
alone u (inl below) = lone_unit_char_low u below
alone u (inr above) = lone_unit_char_high u above

first_alone : (units : List ℕ) (at : ℕ) → at < length units
    → (get_or units at 0 < 0xD800) ⊎ (0xE000 ≤ get_or units at 0)
    → utf16_chars (drop at units) ≡ Some (get_or units at 0) ∷ utf16_chars (drop (at + 1) units)
first_alone units at inside apart =
    utf16_chars-drop_lone units at inside (λ pair. elim apart [
      | inl below ↦ omega (arith, below, pair.0)
      | inr above ↦ omega (arith, above, pair.1)
    ])
    ∙ ap (λ o. o ∷ utf16_chars (drop (at + 1) units)) (alone (get_or units at 0) apart)

-- the characters of n code units without surrogates, from an offset on
pub record IsBlock (units : List ℕ) (count at n : ℕ) : Type 0 where
  pub later : IsAt units (count + n) (at + n)
  pub read : take (count + n) (utf16_text units) ≡
      take count (utf16_text units) ++ map in_one_unit (take n (drop at units))
  pub paired : (k : ℕ) → count ≤ k → k < count + n → IsPaired units k

-- none of them
block_none : (units : List ℕ) (count at : ℕ) → IsAt units count at → IsBlock units count at zero
block_none units count at now = record {
  later = record {
    rest = ap (λ k. drop k (utf16_chars units)) {x = count + zero} {y = count} (omega arith) ∙ now.rest ∙
        ap (λ k. utf16_chars (drop k units)) {x = at} {y = at + zero} (omega arith);
    offset = omega (arith, now.offset, ap (offset_of (utf16_text units)) {x = count + zero} {y = count} (omega arith));
    few = omega (arith, now.few);
    inside = omega (arith, now.inside);
  };
  read = ap (λ k. take k (utf16_text units)) {x = count + zero} {y = count} (omega arith) ∙
      sym (append-nil (take count (utf16_text units)));
  paired = λ k from to. absurd (omega (arith, from, to));
}

-- one more
block_more : (units : List ℕ) (count at n : ℕ) → at + n < length units → get_or units (at + n) 0 < 65536
    → (get_or units (at + n) 0 < 0xD800) ⊎ (0xE000 ≤ get_or units (at + n) 0)
    → IsBlock units count at n → IsBlock units count at (suc n)
block_more units count at n inside fits apart so =
    let text : List Spelled = utf16_text units in
    let u : ℕ = get_or units (at + n) 0 in
    let single = one_unit u fits in
    let next = at_next units (count + n) (at + n) (Some u) (at + n + 1) (first_alone units (at + n) inside apart)
    (omega (arith, single)) (omega arith) (omega (arith, inside)) so.later in
    let spelled : get_or text (count + n) (in_utf16 u) ≡ in_one_unit u = sym next.read ∙
    ap (λ (w : ℕ). let s : Spelled = record { code = u; width = w } in s) single in
    let unit : get_or (drop at units) n 0 ≡ u = get_or-drop at units n 0 in
    let block : take (suc n) (drop at units) ≡ take n (drop at units) ++ u ∷ [] =
    ap (λ k. take k (drop at units)) {x = suc n} {y = n + 1} (omega arith) ∙
    take_more (drop at units) n 0 (omega (arith, inside, length-drop at units)) ∙
    ap (λ (x : ℕ). take n (drop at units) ++ x ∷ []) unit in
    record {
      later = record {
        rest = ap (λ k. drop k (utf16_chars units)) {x = count + suc n} {y = count + n + 1} (omega arith) ∙
            next.later.rest ∙ ap (λ k. utf16_chars (drop k units)) {x = at + n + 1} {y = at + suc n} (omega arith);
        offset = omega (
          arith,
          next.later.offset,
          ap (offset_of text) {x = count + suc n} {y = count + n + 1} (omega arith),
        );
        few = omega (arith, next.later.few);
        inside = omega (arith, inside);
      };
      read = ap (λ k. take k text) {x = count + suc n} {y = count + n + 1} (omega arith)
          ∙ take_more text (count + n) (in_utf16 u) next.within
          ∙ ap (λ (s : Spelled). take (count + n) text ++ s ∷ []) spelled
          ∙ ap (λ (xs : List Spelled). xs ++ in_one_unit u ∷ []) so.read
          ∙ append_assoc (take count text) (map in_one_unit (take n (drop at units))) (in_one_unit u ∷ [])
          ∙ ap (λ (xs : List Spelled). take count text ++ xs)
          (sym (map-append in_one_unit (take n (drop at units)) (u ∷ [])) ∙ ap (map in_one_unit) (sym block));
      paired = λ k from to. elim (cases_eq k (count + n)) [
        | inl e ↦ subst (IsPaired units) (sym e) (λ none. is_some u (sym next.spelled ∙ none))
        | inr ne ↦ so.paired k from (omega (arith, to, ne))
      ];
    }

pub at_block : (units : List ℕ) (count at n : ℕ) → at + n ≤ length units → ((k : ℕ) → get_or units k 0 < 65536)
    → ((k : ℕ) → k < n → (get_or units (at + k) 0 < 0xD800) ⊎ (0xE000 ≤ get_or units (at + k) 0))
    → IsAt units count at → IsBlock units count at n
at_block units count at zero inside fits apart now = block_none units count at now
at_block units count at (suc n) inside fits apart now =
    block_more units count at n (omega (arith, inside)) (fits (at + n)) (apart n (omega arith))
    (at_block units count at n (omega (arith, inside)) fits (λ k lt. apart k (omega (arith, lt))) now)

-- the code units of a block, in the text
pub apart_in_block : (units : List ℕ) (at n : ℕ) → at + n ≤ length units → AreNoSurrogates (take n (drop at units)) →
    (k : ℕ) → k < n → (get_or units (at + k) 0 < 0xD800) ⊎ (0xE000 ≤ get_or units (at + k) 0)
apart_in_block units at n inside none k lt =
    let size = length-take-le n (drop at units) (omega (arith, inside, length-drop at units)) in
    let same_unit : get_or (take n (drop at units)) k 0 ≡ get_or units (at + k) 0 =
    get_or-take n (drop at units) k 0 lt ∙ get_or-drop at units k 0 in
    subst (λ (x : ℕ). (x < 0xD800) ⊎ (0xE000 ≤ x)) same_unit (none k (omega (arith, lt, size)))

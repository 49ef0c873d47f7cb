-- The upper-case hex digits of a code point, one by one.
use Rattle.std.proofs.Common.{◌≡◌, ℕ, suc, ◌/◌, ◌%◌, ◌<◌, ◌≤◌, true, List, [], ◌∷◌, ◌++◌, inl, inr, refl, ap, ◌∙◌, arith, eq-eqb, ne_eqb}
use Rattle.std.specs.Fmt.{digits, digits_onto, digit_glyph}
use Rattle.std.proofs.lemmas.Bool.{cases_lt}
use Rattle.printing.specs.HexDigits.{front_digits, last_digits}
use Rattle.printing.specs.LevelsText.{code_text}

abbrev last_digit : ℕ → ℕ
last_digit n = digit_glyph true (n % 16)

last : (k n : ℕ) (rest : List ℕ) → n < 16 → digits_onto (suc k) 16 true n rest ≡ last_digit n ∷ rest
last k n rest small = rw (eq-eqb (n / 16) 0 (omega arith)) refl

more : (k n : ℕ) (rest : List ℕ) → 16 ≤ n →
    digits_onto (suc k) 16 true n rest ≡ digits_onto k 16 true (n / 16) (last_digit n ∷ rest)
more k n rest large = rw (ne_eqb (n / 16) 0 (λ e. omega (arith, large, e))) refl

one : (n : ℕ) → n < 16 → digits 16 true n ≡ last_digit n ∷ []
unfolding digits
one n small = last 63 n [] small

two : (n : ℕ) → 16 ≤ n → n < 256 → digits 16 true n ≡ last_digit (n / 16) ∷ last_digit n ∷ []
unfolding digits
two n large small = more 63 n [] large ∙ last 62 (n / 16) (last_digit n ∷ []) (omega arith)

three : (n : ℕ) → 256 ≤ n → n < 4096 → digits 16 true n ≡ last_digit (n / 256) ∷ last_digit (n / 16) ∷ last_digit n ∷ []
unfolding digits
three n large small =
    let a : n / 16 / 16 ≡ n / 256 = omega arith in
    more 63 n [] (omega arith) ∙ more 62 (n / 16) _ (omega arith) ∙ rw a (last 61 (n / 256) _ (omega arith))

-- the last four digits of n, before the rest: a is n without its last 8 bits, b is n without its last 12 bits
abbrev digits_of_four : ℕ → ℕ → ℕ → List ℕ → List ℕ
digits_of_four a b n rest = last_digit b ∷ last_digit a ∷ last_digit (n / 16) ∷ last_digit n ∷ rest

four_are : (n : ℕ) (rest : List ℕ) → digits_of_four (n / 16 / 16) (n / 16 / 16 / 16) n rest ≡ last_digits n ++ rest
four_are n rest =
    let a : n / 16 / 16 ≡ n / 256 = omega arith in
    let b : n / 16 / 16 / 16 ≡ n / 4096 = omega arith in
    ap (λ d. digits_of_four d (n / 16 / 16 / 16) n rest) a ∙ ap (λ d. digits_of_four (n / 256) d n rest) b

three_more : (k n : ℕ) (rest : List ℕ) → 4096 ≤ n
    → digits_onto (suc (suc (suc k))) 16 true n rest ≡
    digits_onto k 16 true (n / 16 / 16 / 16) (last_digit (n / 16 / 16) ∷ last_digit (n / 16) ∷ last_digit n ∷ rest)
three_more k n rest large =
    more (suc (suc k)) n rest (omega arith) ∙ more (suc k) (n / 16) (last_digit n ∷ rest) (omega arith)
    ∙ more k (n / 16 / 16) (last_digit (n / 16) ∷ last_digit n ∷ rest) (omega arith)

four_more : (k n : ℕ) → 65536 ≤ n →
    digits_onto (suc (suc (suc (suc k)))) 16 true n [] ≡ digits_onto k 16 true (n / 65536) (last_digits n)
four_more k n large =
    let c : n / 16 / 16 / 16 / 16 ≡ n / 65536 = omega arith in
    three_more (suc k) n [] (omega arith)
    ∙ more k (n / 16 / 16 / 16) (last_digit (n / 16 / 16) ∷ last_digit (n / 16) ∷ last_digit n ∷ []) (omega arith)
    ∙ ap (λ m. digits_onto k 16 true m (digits_of_four (n / 16 / 16) (n / 16 / 16 / 16) n [])) c
    ∙ ap (λ ds. digits_onto k 16 true (n / 65536) ds) (four_are n [])

four : (n : ℕ) → 4096 ≤ n → n < 65536 → digits 16 true n ≡ last_digits n
unfolding digits
four n large small =
    three_more 61 n [] large ∙
    last 60 (n / 16 / 16 / 16) (last_digit (n / 16 / 16) ∷ last_digit (n / 16) ∷ last_digit n ∷ []) (omega arith)
    ∙ four_are n []

five : (n : ℕ) → 65536 ≤ n → n < 1048576 → digits 16 true n ≡ last_digit (n / 65536) ∷ last_digits n
unfolding digits
five n large small = four_more 60 n large ∙ last 59 (n / 65536) (last_digits n) (omega arith)

six : (n : ℕ) → 1048576 ≤ n → n < 16777216 →
    digits 16 true n ≡ last_digit (n / 65536 / 16) ∷ last_digit (n / 65536) ∷ last_digits n
unfolding digits
six n large small =
    four_more 60 n (omega arith) ∙ more 59 (n / 65536) (last_digits n) (omega arith) ∙
    last 58 (n / 65536 / 16) _ (omega arith)

pub front_of_one : (front : ℕ) → 0 < front → front < 16 → front_digits front ≡ last_digit front ∷ []
front_of_one front some small = rw (ne_eqb front 0 (λ e. omega (arith, some, e))) (one front small)

pub front_of_two : (front : ℕ) → 16 ≤ front → front < 256 →
    front_digits front ≡ last_digit (front / 16) ∷ last_digit front ∷ []
front_of_two front large small = rw (ne_eqb front 0 (λ e. omega (arith, large, e))) (two front large small)

no_front : (n : ℕ) → n < 65536 → front_digits (n / 65536) ≡ []
no_front n small = rw (eq-eqb (n / 65536) 0 (omega arith)) refl

pub small_code : (n : ℕ) → n < 65536 → code_text n ≡ last_digits n
unfolding code_text
small_code n small =
    let a : n < 4096 → n / 4096 % 16 ≡ 0 = λ h. omega arith in
    let b : n < 256 → n / 256 % 16 ≡ 0 = λ h. omega arith in
    let c : n < 16 → n / 16 % 16 ≡ 0 = λ h. omega arith in
    elim (cases_lt n 16) [
      | inl h ↦ rw (one n h, a (omega arith), b (omega arith), c h) refl
      | inr g ↦ elim (cases_lt n 256) [
        | inl h ↦ rw (two n g h, a (omega arith), b h) refl
        | inr f ↦ elim (cases_lt n 4096) [
          | inl h ↦ rw (three n f h, a h) refl
          | inr e ↦ rw (four n e small) refl
        ]
      ]
    ]

large_code : (n : ℕ) → 65536 ≤ n → n < 16777216 → code_text n ≡ front_digits (n / 65536) ++ last_digits n
unfolding code_text
large_code n large within =
    elim (cases_lt n 1048576) [
      | inl h ↦ rw (five n large h, front_of_one (n / 65536) (omega arith) (omega arith)) refl
      | inr g ↦ rw (six n g within, front_of_two (n / 65536) (omega arith) (omega arith)) refl
    ]

-- what is printed of a code point is the front digits and then the last four
pub code_in_parts : (n : ℕ) → n < 16777216 → code_text n ≡ front_digits (n / 65536) ++ last_digits n
code_in_parts n within =
    elim (cases_lt n 65536) [
      | inl small ↦ rw (no_front n small) (small_code n small)
      | inr large ↦ large_code n large within
    ]

-- Code points that are printed, read back.
use Rattle.std.proofs.Common.{◌≡◌, ◌≢◌, ℕ, zero, suc, ◌+◌, ◌-◌, ◌*◌, ◌/◌, ◌%◌, ◌<◌, ◌≤◌, ◌==◌, true, false, Bool, Some, List, [], ◌∷◌, ◌++◌, length, inl, inr, refl, sym, ap, ◌∙◌, subst, arith, append-nil, append_assoc, eq-eqb, ne_eqb}
use Rattle.std.specs.Prelude.{nat_le, nat_lt, replicate}
use Rattle.std.specs.Char.{IsScalar}
use Rattle.std.specs.Fmt.{digits, digits_onto, digit_glyph}
use Rattle.std.specs.List.{All, list_all}
use Rattle.std.proofs.lemmas.Bool.{cases_lt}
use Rattle.std.proofs.lemmas.Bool.Decides.{nat_tests}
use Rattle.std.proofs.lemmas.List.{length-append}
use Rattle.std.proofs.lemmas.List.Elements.{All-nil, All-cons, All-head, All-tail, All-append, All-weaker}
use Rattle.std.proofs.lemmas.List.Sums.{fold_push}
use Rattle.units.specs.Text.{code_point_of, hex_digit_value, hex_value, is_hex_digit}
use Rattle.ucdfiles.specs.PairFiles.{char_of, is_surrogate, unless_surrogate}
use Rattle.printing.specs.LevelsText.{code_text}
use Rattle.rows.proofs.Items.{IsItem, IsItemByte}

abbrev IsHexByte : ℕ → Type 0
IsHexByte b = is_hex_digit b ≡ true

-- hex digits of a number
record IsHexOf (n : ℕ) (ds : List ℕ) : Type 0 where
  pub some : 0 < length ds
  pub hex : All IsHexByte ds
  pub value : hex_value ds ≡ n

-- a byte that is a hex digit
record IsHexDigit (d b : ℕ) : Type 0 where
  pub hex : IsHexByte b
  pub value : hex_digit_value b ≡ d

low-glyph : (d : ℕ) → d < 10 → IsHexDigit d (48 + d)
low-glyph d low =
    let from : nat_le 48 (48 + d) ≡ true = grind (arith, nat_tests) in
    let to : nat_le (48 + d) 57 ≡ true = grind (arith, nat_tests) in
    record { hex = rw (from, to) refl; value = rw to (omega arith) }

high-glyph : (d : ℕ) → 10 ≤ d → d < 16 → IsHexDigit d (55 + d)
high-glyph d high within =
    let past : nat_le (55 + d) 57 ≡ false = grind (arith, nat_tests) in
    let low : nat_le 48 (55 + d) ≡ true = grind (arith, nat_tests) in
    let from : nat_le 65 (55 + d) ≡ true = grind (arith, nat_tests) in
    let to : nat_le (55 + d) 70 ≡ true = grind (arith, nat_tests) in
    record { hex = rw (low, past, from, to) refl; value = rw past (omega arith) }

glyph : (d : ℕ) → d < 16 → IsHexDigit d (digit_glyph true d)
glyph d within =
    elim (cases_lt d 10) [
      | inl low ↦ (
          let test : nat_lt d 10 ≡ true = grind (arith, nat_tests) in
          let is : 48 + d ≡ digit_glyph true d = rw test refl in
          subst (IsHexDigit d) is (low-glyph d low))
      | inr high ↦ (
          let test : nat_lt d 10 ≡ false = grind (arith, nat_tests) in
          let is : 55 + d ≡ digit_glyph true d = rw test refl in
          subst (IsHexDigit d) is (high-glyph d high within))
    ]

-- numbers with one digit more than the argument are below this
abbrev bound : ℕ → ℕ
bound zero = 16
bound (suc k) = 16 * bound k

-- a text begins with hex digits of a number, at most `most`, and continues with another text
record BeginsWith (most n : ℕ) (rest whole : List ℕ) : Type 0 where
  pub front : List ℕ
  pub joined : whole ≡ front ++ rest
  pub few : length front ≤ most
  pub is : IsHexOf n front

one-digit : (most i n : ℕ) (rest : List ℕ) → 0 < most → n < 16 →
    BeginsWith most n rest (digits_onto (suc i) 16 true n rest)
one-digit most i n rest some within =
    let last : (n / 16 == 0) ≡ true = eq-eqb (n / 16) 0 (omega arith) in
    let digit : n % 16 ≡ n = omega arith in
    let is = glyph (n % 16) (omega arith) in
    record {
      front = digit_glyph true (n % 16) ∷ [];
      joined = rw last refl;
      few = omega arith;
      is = record {
        some = omega arith;
        hex = All-cons IsHexByte (digit_glyph true (n % 16)) [] is.hex (All-nil IsHexByte);
        value = omega (arith, is.value, digit);
      };
    }

-- the last hex digit of a number
abbrev last_digit : ℕ → ℕ
last_digit n = digit_glyph true (n % 16)

more-digits : (k i n : ℕ) (rest : List ℕ) → 16 ≤ n →
    BeginsWith (suc k) (n / 16) (last_digit n ∷ rest) (digits_onto (suc i) 16 true (n / 16) (last_digit n ∷ rest))
    → BeginsWith (suc (suc k)) n rest (digits_onto (suc (suc i)) 16 true n rest)
more-digits k i n rest large before =
    let more : (n / 16 == 0) ≡ false = ne_eqb (n / 16) 0 (λ e. omega (arith, large, e)) in
    let digit = last_digit n in
    let is = glyph (n % 16) (omega arith) in
    let front : List ℕ = before.front in
    let value : hex_value (front ++ digit ∷ []) ≡ hex_value front * 16 + hex_digit_value digit =
    fold_push (λ m b. m * 16 + hex_digit_value b) 0 front digit in
    record {
      front = front ++ digit ∷ [];
      joined = rw more (before.joined ∙ sym (append_assoc front (digit ∷ []) rest));
      few = omega (arith, length-append front (digit ∷ []), before.few);
      is = record {
        some = omega (arith, length-append front (digit ∷ []));
        hex = All-append IsHexByte front (digit ∷ []) before.is.hex
            (All-cons IsHexByte digit [] is.hex (All-nil IsHexByte));
        value = omega (arith, value, before.is.value, is.value);
      };
    }

digits-begin : (k i n : ℕ) (rest : List ℕ) → k ≤ i → n < bound k →
    BeginsWith (suc k) n rest (digits_onto (suc i) 16 true n rest)
digits-begin zero i n rest le within = one-digit 1 i n rest (omega arith) within
digits-begin (suc k) zero n rest le within = absurd (omega arith)
digits-begin (suc k) (suc i) n rest le within =
    elim (cases_lt n 16) [
      | inl small ↦ one-digit (suc (suc k)) (suc i) n rest (omega arith) small
      | inr large ↦ more-digits k i n rest large (digits-begin k i (n / 16) (last_digit n ∷ rest) (omega arith)
          (omega (arith, within)))
    ]

-- zeros in front
padded : (k n : ℕ) (ds : List ℕ) → IsHexOf n ds → IsHexOf n (replicate k 48 ++ ds)
padded zero n ds is = is
padded (suc k) n ds is =
    let rest = padded k n ds is in
    record { some = omega arith; hex = All-cons IsHexByte 48 (replicate k 48 ++ ds) refl rest.hex; value = rest.value }

length-padded : (k : ℕ) (ds : List ℕ) → length (replicate k 48 ++ ds) ≡ k + length ds
length-padded zero ds = omega arith
length-padded (suc k) ds = omega (arith, length-padded k ds)

-- the properties of the text of a code point
record IsCode (c : ℕ) : Type 0 where
  pub least : 4 ≤ length (code_text c)
  pub few : length (code_text c) ≤ 6
  pub is : IsHexOf c (code_text c)

code : (c : ℕ) → c ≤ 0x10FFFF → IsCode c
unfolding code_text digits
code c within =
    let begun = digits-begin 5 63 c [] (omega arith) (omega (arith, within)) in
    let front : List ℕ = begun.front in
    let ds : digits 16 true c ≡ front = begun.joined ∙ append-nil front in
    let count = length-padded (4 - length front) front in
    let text : replicate (4 - length front) 48 ++ front ≡ code_text c =
    ap (λ (xs : List ℕ). replicate (4 - length xs) 48 ++ xs) (sym ds) in
    let n : length (code_text c) ≡ 4 - length front + length front = ap length (sym text) ∙ count in
    record {
      least = omega (arith, n);
      few = omega (arith, n, begun.few);
      is = subst (IsHexOf c) text (padded (4 - length front) c front begun.is);
    }

item-byte : (b : ℕ) → IsHexByte b → IsItemByte b
item-byte b hex =
    let above : 48 ≤ b = grind (arith, nat_tests) in
    let within : b ≢ 59 = λ e. grind (arith, nat_tests) in
    let plain : b ≢ 64 = λ e. grind (arith, nat_tests) in
    record { above = above; within = within; plain = plain }

tests-all : (test : ℕ → Bool) (xs : List ℕ) → All (λ x. test x ≡ true) xs → list_all test xs ≡ true
tests-all test [] each = refl
tests-all test (x ∷ xs) each =
    rw (All-head (λ y. test y ≡ true) x xs each) (tests-all test xs (All-tail (λ y. test y ≡ true) x xs each))

-- a code point that a character can have
record IsCharCode (c : ℕ) : Type 0 where
  pub within : c ≤ 0x10FFFF
  pub char : is_surrogate c ≡ false

char-code : (c : ℕ) → IsScalar c → IsCharCode c
char-code c scalar =
    let within : c ≤ 0x10FFFF = grind (arith, nat_tests) in
    let char : is_surrogate c ≡ false = grind (arith, nat_tests) in
    record { within = within; char = char }

pub code-item : (c : ℕ) → IsScalar c → IsItem (code_text c)
code-item c scalar =
    let is = (code c (char-code c scalar).within).is in
    record { some = is.some; bytes = All-weaker IsHexByte IsItemByte item-byte (code_text c) is.hex }

pub code-few : (c : ℕ) → IsScalar c → length (code_text c) ≤ 6
code-few c scalar = (code c (char-code c scalar).within).few

pub code-read : (c : ℕ) → IsScalar c → char_of (code_text c) ≡ Some c
code-read c scalar =
    let char = char-code c scalar in
    let is = code c char.within in
    let value : hex_value (code_text c) ≡ c = is.is.value in
    let within = char.within in
    let least : nat_le 4 (length (code_text c)) ≡ true = let h = is.least in grind (arith, nat_tests) in
    let few : nat_le (length (code_text c)) 6 ≡ true = let h = is.few in grind (arith, nat_tests) in
    let hex : list_all is_hex_digit (code_text c) ≡ true = tests-all is_hex_digit (code_text c) is.is.hex in
    let most : nat_le c 0x10FFFF ≡ true = grind (arith, nat_tests) in
    let read : code_point_of (code_text c) ≡ Some c = rw (least, few, hex, value, most) refl in
    ap unless_surrogate read ∙ rw char.char refl

-- Numbers that are printed, read back.
use Rattle.std.proofs.Common.{◌≡◌, ℕ, zero, suc, ◌+◌, ◌-◌, ◌*◌, ◌<◌, ◌≤◌, ◌^◌, true, false, not, List, [], ◌∷◌, get_or, Some, refl, ap, arith, rules, ne_eqb}
use Rattle.std.specs.Prelude.{fold, nat_le}
use Rattle.std.specs.List.{list_all}
use Rattle.std.specs.Str.{bytes_eq}
use Rattle.std.specs.Fmt.{decimal}
use Rattle.std.proofs.lemmas.Bool.{and_parts}
use Rattle.std.proofs.lemmas.Bool.Decides.{nat_tests}
use Rattle.std.proofs.lemmas.Fmt.{decimal_digit, decimal_nonempty, first_decimal, digits_decimal, digits_value-decimal}
use Rattle.std.proofs.lemmas.Str.Parse.{IsNumeralModel, numerals_by_fold}
use Rattle.rows.proofs.Items.{IsItem, IsItemByte, all-tested}
use Rattle.units.specs.Text.{is_digit, decimal_value, begins_number, number_up_to}

own : IsNumeralModel (λ ds. list_all is_digit ds ≡ true) decimal_value
own = numerals_by_fold _ (search rules) (λ n ds. fold (λ m b. m * 10 + (b - 48)) n ds) (search rules)

begins : (ds : List ℕ) → 48 < get_or ds 0 0 → begins_number ds ≡ true
begins [] first = absurd (omega arith)
begins (d ∷ []) first = refl
begins (d ∷ e ∷ ds) first = ap not (ne_eqb d 48 (λ e. omega (arith, first, e)))

begins-decimal : (n : ℕ) → n < 2 ^ 64 → begins_number (decimal n) ≡ true
begins-decimal zero small = ap begins_number (decimal_digit 0 (omega arith))
begins-decimal (suc n) small = begins (decimal (suc n)) (first_decimal (suc n) (omega arith) small)

digit-byte : (b : ℕ) → is_digit b ≡ true → IsItemByte b
digit-byte b digit =
    let low : 48 ≤ b = grind (arith, nat_tests) in
    let high : b ≤ 57 = grind (arith, nat_tests) in
    record { above = low; within = λ e. omega arith; plain = λ e. omega arith }

pub decimal-item : (n : ℕ) → n < 2 ^ 64 → IsItem (decimal n)
decimal-item n small = record {
  some = decimal_nonempty n small;
  bytes =
      all-tested IsItemByte is_digit digit-byte (decimal n) (digits_decimal own n small);
}

no-word : (ds : List ℕ) (b : ℕ) → 57 < b → list_all is_digit ds ≡ true → bytes_eq ds (b ∷ []) ≡ false
no-word [] b above digits = refl
no-word (d ∷ ds) b above digits =
    let both = and_parts (is_digit d) (list_all is_digit ds) digits in
    let high : d ≤ 57 = grind (arith, nat_tests) in
    rw (ne_eqb d b (λ e. omega arith)) refl

-- no number is read as a letter
pub decimal-no_word : (n b : ℕ) → 57 < b → n < 2 ^ 64 → bytes_eq (decimal n) (b ∷ []) ≡ false
decimal-no_word n b above small = no-word (decimal n) b above (digits_decimal own n small)

pub number-read : (greatest n : ℕ) → n ≤ greatest → n < 2 ^ 64 → number_up_to greatest (decimal n) ≡ Some n
number-read greatest n within small =
    let value : decimal_value (decimal n) ≡ n = digits_value-decimal own n small in
    let digits : list_all is_digit (decimal n) ≡ true = digits_decimal own n small in
    let start : begins_number (decimal n) ≡ true = begins-decimal n small in
    let le : nat_le n greatest ≡ true = grind (arith, nat_tests) in
    rw (start, digits, value, le) refl

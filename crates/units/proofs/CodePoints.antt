-- Hex digits read so far.
use Rattle.std.proofs.Common.{◌≡◌, ℕ, ◌+◌, ◌*◌, ◌<◌, ◌≤◌, ◌^◌, true, List, length, get_or, take, add-one, refl, sym, ◌∙◌, arith}
use Rattle.std.specs.List.{list_all}
use Rattle.std.proofs.Math.Nat.{pow-le-pow_right, pow-suc}
use Rattle.std.proofs.lemmas.List.Sums.{fold_more}
use Rattle.std.proofs.lemmas.List.Folds.{list_all_more}
use Rattle.units.specs.Text.{is_hex_digit, hex_digit_value, hex_value}

-- all of these are digits, and their value is this
pub record Reads (bytes : List ℕ) (count value : ℕ) : Type 0 where
  pub digits : list_all is_hex_digit bytes ≡ true
  pub is : value ≡ hex_value bytes
  pub small : value < 16 ^ count

pub small_before : (i value : ℕ) → i ≤ 5 → value < 16 ^ i → value < 1048576
small_before i value le small = let m : 16 ^ i ≤ 16 ^ 5 = pow-le-pow_right (omega arith) le in omega (arith, m)

pub Reads-more : (field : List ℕ) (i value digit : ℕ) → i < length field → Reads (take i field) i value
    → (is_hex_digit (get_or field i 0) ≡ true) × (digit ≡ hex_digit_value (get_or field i 0)) × (digit < 16)
    → Reads (take (i + 1) field) (i + 1) (value * 16 + digit)
Reads-more field i value digit lt reads read = record {
  digits = list_all_more is_hex_digit field i 0 lt ∙ rw (reads.digits, read.0) refl;
  is = sym (fold_more (λ n b. n * 16 + hex_digit_value b) 0 field i 0 lt ∙ rw (← reads.is, ← read.1) refl);
  small = let e : 16 ^ (i + 1) ≡ 16 ^ i * 16 = rw add-one (pow-suc 16 i) in omega (arith, reads.small, read.2, e);
}

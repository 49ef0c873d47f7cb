-- Decimal digits read so far.
use Rattle.std.proofs.Common.{◌≡◌, ℕ, ◌+◌, ◌-◌, ◌*◌, ◌<◌, ◌≤◌, true, false, Bool, ◌&&◌, if◌then◌else◌, Some, None, List, [], ◌∷◌, length, get_or, take, drop, refl, sym, ap, ◌∙◌, arith}
use Rattle.std.specs.List.{list_all, fold}
use Rattle.std.specs.Prelude.{nat_le}
use Rattle.std.proofs.lemmas.List.{take-append-drop}
use Rattle.std.proofs.lemmas.List.Sums.{fold_more, fold-append}
use Rattle.std.proofs.lemmas.Bool.Decides.{nat_tests}
use Rattle.units.specs.Text.{is_digit, decimal_value, begins_number, number_up_to}

-- all of these are digits, and their value is this
pub record ReadsNumber (bytes : List ℕ) (greatest value : ℕ) : Type 0 where
  pub digits : list_all is_digit bytes ≡ true
  pub is : value ≡ decimal_value bytes
  pub small : value ≤ greatest

value-more : (item : List ℕ) (i value digit : ℕ) → i < length item → value ≡ decimal_value (take i item) →
    digit ≡ get_or item i 0 - 48
    → value * 10 + digit ≡ decimal_value (take (i + 1) item)
value-more item i value digit lt is d = sym (fold_more (λ n b. n * 10 + (b - 48)) 0 item i 0 lt ∙ rw (← is, ← d) refl)

-- more digits make no smaller number
fold-grows : (n : ℕ) (xs : List ℕ) → n ≤ fold (λ m b. m * 10 + (b - 48)) n xs
fold-grows n [] = omega arith
fold-grows n (x ∷ xs) = omega (arith, fold-grows (n * 10 + (x - 48)) xs)

value-grows : (item : List ℕ) (n : ℕ) → decimal_value (take n item) ≤ decimal_value item
value-grows item n =
    let e : decimal_value item ≡ fold (λ m b. m * 10 + (b - 48)) (decimal_value (take n item)) (drop n item) =
    ap decimal_value (sym (take-append-drop n item)) ∙
    fold-append (λ m b. m * 10 + (b - 48)) 0 (take n item) (drop n item) in
    omega (arith, e, fold-grows (decimal_value (take n item)) (drop n item))

not_small : (b digits : Bool) (value : ℕ) → None ≡ (if (b && digits) && false then Some value else None)
not_small true true value = refl
not_small true false value = refl
not_small false digits value = refl

pub number-large : (item : List ℕ) (greatest i value digit : ℕ) → i < length item →
    ReadsNumber (take i item) greatest value
    → (is_digit (get_or item i 0) ≡ true) × (digit ≡ get_or item i 0 - 48) × (digit ≤ 9) →
    greatest < value * 10 + digit → None ≡ number_up_to greatest item
number-large item greatest i value digit lt reads read large =
    let v : value * 10 + digit ≡ decimal_value (take (i + 1) item) = value-more item i value digit lt reads.is read.1 in
    let above : greatest < decimal_value item = omega (arith, v, value-grows item (i + 1)) in
    let e : nat_le (decimal_value item) greatest ≡ false = grind (arith, nat_tests) in
    rw e (not_small (begins_number item) (list_all is_digit item) (decimal_value item))

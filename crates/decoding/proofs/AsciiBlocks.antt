-- Blocks of code points or code units that are ASCII.
use Rattle.std.proofs.Common.{◌≡◌, ℕ, zero, suc, ◌-◌, ◌*◌, ◌/◌, ◌^◌, ◌<◌, ◌≤◌, List, [], ◌∷◌, length, get_or, map, replicate, sym, ap, ◌∙◌, arith}
use Rattle.std.specs.Int.RustNames.{bit_and, bit_or}
use Rattle.std.proofs.lemmas.List.{get_or-map, length-map}
use Rattle.std.proofs.lemmas.Nat.{le_or_l, le_or_r}
use Rattle.std.proofs.lemmas.Nat.Bits.{and_high_mask}
use Rattle.std.proofs.lemmas.Simd.{Each1-get_or, zip2_splat}
use lib.Lanes.{Each1, fold_l, zip2}
use mir.Syntax.{Width}
use mir.Val.{bits, Fits}

-- each lane is at most the lanes joined by or
joined_start : (a : ℕ) (xs : List ℕ) → a ≤ fold_l bit_or a xs
joined_start a [] = omega arith
joined_start a (x ∷ xs) = omega (arith, le_or_l a x, joined_start (bit_or a x) xs)

joined : (a : ℕ) (xs : List ℕ) (i : ℕ) → i < length xs → get_or xs i 0 ≤ fold_l bit_or a xs
joined a [] i lt = absurd (omega (arith, lt))
joined a (x ∷ xs) zero lt = omega (arith, le_or_r a x, joined_start (bit_or a x) xs)
joined a (x ∷ xs) (suc i) lt = joined (bit_or a x) xs i (omega (arith, lt))

-- no lane of a block has a bit above those of ASCII
pub ascii_of_or : (w : Width) (xs : List ℕ) (n : ℕ) → 7 ≤ bits w → length xs ≡ n → Each1 (Fits w) xs
    → fold_l bit_or 0 (zip2 bit_and xs (replicate n (2 ^ bits w - 2 ^ 7))) ≡ 0
    → (i : ℕ) → i < length xs → get_or xs i 0 < 128
ascii_of_or w xs n wide long fits none i lt =
    let mask : ℕ = 2 ^ bits w - 2 ^ 7 in
    let high : ℕ → ℕ = λ x. bit_and x mask in
    let same : zip2 bit_and xs (replicate n mask) ≡ map high xs = zip2_splat bit_and xs n mask long in
    let size : length (map high xs) ≡ length xs = length-map xs high in
    let below : get_or (map high xs) i 0 ≤ 0 =
    omega (arith, joined 0 (map high xs) i (omega (arith, lt, size)), sym (ap (fold_l bit_or 0) same) ∙ none) in
    let here : get_or (map high xs) i 0 ≡ bit_and (get_or xs i 0) mask = get_or-map high xs i 0 0 lt in
    let is : bit_and (get_or xs i 0) mask ≡ get_or xs i 0 / 2 ^ 7 * 2 ^ 7 =
    and_high_mask (bits w) 7 wide (get_or xs i 0) (Each1-get_or (Fits w) xs i 0 lt fits).fits in
    omega (arith, below, here, is)

-- Texts that are tested for UTF-8.
use Rattle.std.proofs.Common.{◌≡◌, ℕ, zero, suc, ◌+◌, ◌%◌, ◌^◌, ◌<◌, Bool, true, false, cond, eqb, leb, List, [], ◌∷◌, length, get_or, map, take, drop, replicate, refl, sym, ap, ◌∙◌, subst, arith, eqb-true, leb-false, take-add}
use Rattle.std.specs.Str.{IsAscii, IsUtf8, StartsWithNoChar}
use Rattle.std.specs.Str.Lossy.{utf8_valid_len}
use Rattle.std.proofs.lemmas.List.{length-map}
use Rattle.std.proofs.lemmas.Simd.{length-zip2, mask_l-mod}
use Rattle.std.proofs.lemmas.Str.{utf8_valid_len-IsValidUpTo, IsUtf8-append, IsUtf8-from_ascii}
use Rattle.std.proofs.str.Faults.{not_text, valid_to}
use lib.Lanes.{zip2, mask_l, top}

-- if no character begins after a well-formed front, the first fault is there
pub first_fault : (bs : List ℕ) (at : ℕ) → at < length bs → IsUtf8 (take at bs) → StartsWithNoChar (drop at bs) →
    (IsUtf8 bs → ⊥) × (at ≡ utf8_valid_len bs)
first_fault bs at inside front none =
    let longest = valid_to bs at inside front none in
    (not_text bs at longest, sym (utf8_valid_len-IsValidUpTo bs at longest))

-- a well-formed front and a block of ASCII after it are well formed
pub utf8_block : (bs : List ℕ) (at n : ℕ) → IsUtf8 (take at bs) → IsAscii (take n (drop at bs)) →
    IsUtf8 (take (at + n) bs)
utf8_block bs at n front ascii =
    subst IsUtf8 (sym (take-add at n bs)) (IsUtf8-append (take at bs) (take n (drop at bs)) front
    (IsUtf8-from_ascii (take n (drop at bs)) ascii))

-- the value of a lane of the comparison
abbrev pub at_least : ℕ → ℕ → ℕ
at_least a b = cond (leb a b) 255 0

none_high : (xs : List ℕ) → mask_l (map (top 7) (zip2 at_least (replicate (length xs) 128) xs)) ≡ 0 → (i : ℕ) →
    get_or xs i 0 < 128
none_high [] e i = omega arith
none_high (x ∷ xs) e zero = go (leb 128 x) refl (omega arith)
  where
    go : (t : Bool) → leb 128 x ≡ t → ◌≡◌ {A = ℕ} (cond (top 7 (cond t 255 0)) 1 0) 0 → x < 128
    go true p q = absurd (omega arith)
    go false p q = leb-false _ _ p
none_high (x ∷ xs) e (suc i) = none_high xs (omega arith) i

mask_small : (f : ℕ → ℕ → ℕ) (xs ys : List ℕ) → length xs ≡ 16 → length ys ≡ 16 →
    mask_l (map (top 7) (zip2 f xs ys)) % 2 ^ 64 ≡ mask_l (map (top 7) (zip2 f xs ys))
mask_small f xs ys p q =
    mask_l-mod _ 64 (omega (arith, length-map (zip2 f xs ys) (top 7), length-zip2 f xs ys (p ∙ sym q)))

-- no lane of a block is 128 or more
pub ascii_of_mask : (xs : List ℕ) → length xs ≡ 16 →
    eqb (mask_l (map (top 7) (zip2 at_least (replicate 16 128) xs)) % 2 ^ 64) 0 ≡ true → IsAscii xs
ascii_of_mask xs long e =
    none_high xs (ap (λ n. mask_l (map (top 7) (zip2 at_least (replicate n 128) xs))) long ∙
    sym (mask_small at_least (replicate 16 128) xs refl long) ∙ eqb-true _ _ e)

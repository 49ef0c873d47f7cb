-- Blocks of characters in UTF-8: what the bits of their bytes say.
use Rattle.std.proofs.Common.{◌≡◌, ℕ, zero, suc, ◌+◌, ◌*◌, ◌/◌, ◌%◌, ◌^◌, ◌<◌, ◌≤◌, Bool, true, false, cond, eqb, leb, List, [], ◌∷◌, length, get_or, map, drop, replicate, refl, sym, ap, ◌∙◌, subst, subst₂, inl, inr, arith, w8}
use Rattle.std.specs.Bool.{⊤}
use Rattle.std.specs.Int.Bits.{and_zero_l}
use Rattle.std.specs.Int.RustNames.{bit_and}
use Rattle.std.proofs.lemmas.Bool.{cases_lt, cases_eq, eq-eqb, ne_eqb, le-leb, lt-leb}
use Rattle.std.proofs.lemmas.List.{length-map}
use Rattle.std.proofs.lemmas.Nat.{and_block, and_le_r}
use Rattle.std.proofs.lemmas.Simd.{bitmask_splat, mask_l-lt, mask_l-mod, tops_compared, zip2_splat_left}
use lib.Lanes.{zip2, mask_l, top}
use Rattle.decoding.specs.Spelling.{AreFollowed}
use Rattle.decoding.proofs.Utf8Tests.{at_least}

-- the mask of the lanes that are at least y
pub mask_at_least : (y : ℕ) (xs : List ℕ) → length xs ≡ 16 →
    mask_l (map (top 7) (zip2 at_least (replicate 16 y) xs)) % 2 ^ 64 ≡ mask_l (map (leb y) xs)
mask_at_least y xs long =
    ap (λ (ms : List Bool). mask_l ms % 2 ^ 64)
    (tops_compared w8 leb (replicate 16 y) xs ∙ zip2_splat_left leb y 16 xs long) ∙
    mask_l-mod (map (leb y) xs) 64 (omega (arith, length-map xs (leb y), long))

-- the mask of the lanes that are equal to y
pub mask_equal : (y : ℕ) (xs : List ℕ) → length xs ≡ 16 →
    mask_l (map (top 7) (zip2 (λ a b. cond (eqb a b) 255 0) xs (replicate 16 y))) % 2 ^ 64 ≡
    mask_l (map (λ x. eqb x y) xs)
mask_equal y xs long = bitmask_splat w8 eqb xs 16 y long (omega arith)

-- the mask of 16 lanes has 16 bits
pub mask_small : (f : ℕ → Bool) (xs : List ℕ) → length xs ≡ 16 → mask_l (map f xs) < 2 ^ 16
mask_small f xs long =
    subst (λ (n : ℕ). mask_l (map f xs) < 2 ^ n) (length-map xs f ∙ long) (mask_l-lt (map f xs))

-- a lane's bit in the mask
pub bit_on : (y x : ℕ) → y ≤ x → ◌≡◌ {A = ℕ} (cond (leb y x) 1 0) 1
bit_on y x le = ap {B = ℕ} (λ b. cond b 1 0) (le-leb y x le)

pub bit_off : (y x : ℕ) → x < y → ◌≡◌ {A = ℕ} (cond (leb y x) 1 0) 0
bit_off y x lt = ap {B = ℕ} (λ b. cond b 1 0) (lt-leb y x lt)

pub bit_most : (b : Bool) → ◌≤◌ (cond b 1 0) 1
bit_most true = omega arith
bit_most false = omega arith

-- no bits of lanes that are at least y
pub none_from : (y : ℕ) (xs : List ℕ) → mask_l (map (leb y) xs) ≡ 0 → (k : ℕ) → k < length xs → get_or xs k 0 < y
none_from y [] e k lt = absurd (omega (arith, lt))
none_from y (x ∷ xs) e zero lt = elim (cases_lt x y) [
  | inl below ↦ below
  | inr above ↦ absurd (omega (arith, e, bit_on y x above))
]
none_from y (x ∷ xs) e (suc k) lt = none_from y xs (omega (arith, e)) k (omega (arith, lt))

pub none_above : (y z : ℕ) (xs : List ℕ) → y ≤ z → mask_l (map (leb y) xs) ≡ 0 → mask_l (map (leb z) xs) ≡ 0
none_above y z [] le e = refl
none_above y z (x ∷ xs) le e = elim (cases_lt x y) [
  | inl below ↦ omega (arith, e, bit_off z x (omega (arith, below, le)), none_above y z xs le (omega (arith, e)))
  | inr above ↦ absurd (omega (arith, e, bit_on y x above))
]

-- n times the double
abbrev pub doubled : ℕ → ℕ → ℕ
doubled zero q = q
doubled (suc n) q = 2 * doubled n q

-- `AreFollowed`, byte by byte
abbrev pub Followed : ℕ → ℕ → ℕ → List ℕ → Type 0
Followed a b limit [] = ⊤
Followed a b limit (x ∷ []) = ⊤
Followed a b limit (x ∷ y ∷ ys) = ((x ≡ a → limit ≤ y) × (x ≡ b → y < limit)) × Followed a b limit (y ∷ ys)

pub followed_next : (a b limit x : ℕ) (xs : List ℕ) → Followed a b limit (x ∷ xs) → Followed a b limit xs
followed_next a b limit x [] f = tt
followed_next a b limit x (y ∷ ys) f = f.1

least_at : (a b limit : ℕ) (xs : List ℕ) → Followed a b limit xs → (k : ℕ) → suc k < length xs →
    get_or xs k 0 ≡ a → limit ≤ get_or xs (suc k) 0
least_at a b limit [] f k lt e = absurd (omega (arith, lt))
least_at a b limit (x ∷ []) f k lt e = absurd (omega (arith, lt))
least_at a b limit (x ∷ y ∷ ys) f zero lt e = f.0.0 e
least_at a b limit (x ∷ y ∷ ys) f (suc k) lt e = least_at a b limit (y ∷ ys) f.1 k (omega (arith, lt)) e

most_at : (a b limit : ℕ) (xs : List ℕ) → Followed a b limit xs → (k : ℕ) → suc k < length xs →
    get_or xs k 0 ≡ b → get_or xs (suc k) 0 < limit
most_at a b limit [] f k lt e = absurd (omega (arith, lt))
most_at a b limit (x ∷ []) f k lt e = absurd (omega (arith, lt))
most_at a b limit (x ∷ y ∷ ys) f zero lt e = f.0.1 e
most_at a b limit (x ∷ y ∷ ys) f (suc k) lt e = most_at a b limit (y ∷ ys) f.1 k (omega (arith, lt)) e

are_followed : (a b limit : ℕ) (xs : List ℕ) → Followed a b limit xs → AreFollowed xs a b limit
are_followed a b limit xs f = record {
  least = λ k lt e.
      let s : suc k ≡ k + 1 = omega arith in
      subst (λ (n : ℕ). limit ≤ get_or xs n 0) s (least_at a b limit xs f k (omega (arith, lt)) e);
  most = λ k lt e.
      let s : suc k ≡ k + 1 = omega arith in
      subst (λ (n : ℕ). get_or xs n 0 < limit) s (most_at a b limit xs f k (omega (arith, lt)) e);
}

listed : (a b limit : ℕ) (xs : List ℕ) → ((k : ℕ) → suc k < length xs → get_or xs k 0 ≡ a → limit ≤ get_or xs (suc k) 0)
    → ((k : ℕ) → suc k < length xs → get_or xs k 0 ≡ b → get_or xs (suc k) 0 < limit) → Followed a b limit xs
listed a b limit [] f g = tt
listed a b limit (x ∷ []) f g = tt
listed a b limit (x ∷ y ∷ ys) f g = (
  (f 0 (omega arith), g 0 (omega arith)),
  listed a b limit (y ∷ ys) (λ k lt. f (suc k) (omega (arith, lt))) (λ k lt. g (suc k) (omega (arith, lt))),
)

pub followed_list : (a b limit : ℕ) (xs : List ℕ) → AreFollowed xs a b limit → Followed a b limit xs
followed_list a b limit xs is =
    listed a b limit xs
    (λ k lt e.
    let s : k + 1 ≡ suc k = omega arith in
    subst (λ (n : ℕ). limit ≤ get_or xs n 0) s (is.least k (omega (arith, lt)) e))
    (λ k lt e.
    let s : k + 1 ≡ suc k = omega arith in
    subst (λ (n : ℕ). get_or xs n 0 < limit) s (is.most k (omega (arith, lt)) e))

-- no byte is followed by a wrong one if none is as great as the smaller of the two
pub none_followed : (a b limit : ℕ) (xs : List ℕ) → a < b → mask_l (map (leb a) xs) ≡ 0 → AreFollowed xs a b limit
none_followed a b limit xs lt none = record {
  least = λ k inside e. absurd (omega (arith, e, none_from a xs none k (omega (arith, inside))));
  most = λ k inside e. absurd (omega (arith, e, lt, none_from a xs none k (omega (arith, inside))));
}

-- the bits of a byte that is a, or b
bit_is : (x y : ℕ) → x ≡ y → ◌≡◌ {A = ℕ} (cond (eqb x y) 1 0) 1
bit_is x y e = ap {B = ℕ} (λ b. cond b 1 0) (eq-eqb x y e)

bit_is_not : (x y : ℕ) → (x ≡ y → ⊥) → ◌≡◌ {A = ℕ} (cond (eqb x y) 1 0) 0
bit_is_not x y e = ap {B = ℕ} (λ b. cond b 1 0) (ne_eqb x y e)

both_bits : (x a b : ℕ) → a < b → cond (eqb x a) 1 0 + cond (eqb x b) 1 0 < 2
both_bits x a b lt = elim (cases_eq x a) [
  | inl e ↦ omega (arith, bit_is x a e, bit_is_not x b (λ d. omega (arith, d, e, lt)))
  | inr ne ↦ omega (arith, bit_is_not x a ne, bit_most (eqb x b))
]

and_one : (b : Bool) → bit_and 1 (cond b 1 0) ≡ cond b 1 0
and_one true = refl
and_one false = refl

-- the bits of the bytes a and b that the next byte's bit, one lane earlier, leaves are those of a
followed : (a b limit q : ℕ) (xs : List ℕ) → a < b
    → bit_and (mask_l (map (λ x. eqb x a) xs) + mask_l (map (λ x. eqb x b) xs)) (mask_l (map (leb limit) xs) / 2) +
    doubled (length (drop 1 xs)) q ≡ mask_l (map (λ x. eqb x a) xs) → Followed a b limit xs
followed a b limit q [] lt e = tt
followed a b limit q (x ∷ []) lt e = tt
followed a b limit q (x ∷ y ∷ ys) lt e =
    let zs : List ℕ = y ∷ ys in
    let firsts : ℕ = mask_l (map (λ z. eqb z a) zs) in
    let lasts : ℕ = mask_l (map (λ z. eqb z b) zs) in
    let hs : ℕ = mask_l (map (leb limit) ys) in
    let ax : ℕ = cond (eqb x a) 1 0 in
    let bx : ℕ = cond (eqb x b) 1 0 in
    let hy : ℕ = cond (leb limit y) 1 0 in
    let step : bit_and ((firsts + lasts) * 2 + (ax + bx)) (hs * 2 + hy) ≡ bit_and (firsts + lasts) hs * 2 + bit_and (ax + bx) hy =
    and_block 1 (firsts + lasts) hs (ax + bx) hy (both_bits x a b lt) (omega (arith, bit_most (leb limit y))) in
    let joined : mask_l (map (λ z. eqb z a) (x ∷ zs)) + mask_l (map (λ z. eqb z b) (x ∷ zs)) ≡
    (firsts + lasts) * 2 + (ax + bx) = omega arith in
    let right : mask_l (map (leb limit) (x ∷ zs)) / 2 ≡ hs * 2 + hy =
    omega (arith, bit_most (leb limit x)) in
    let half : hs ≡ mask_l (map (leb limit) zs) / 2 = omega (arith, bit_most (leb limit y)) in
    let all = ap (λ (n : ℕ). bit_and n (mask_l (map (leb limit) (x ∷ zs)) / 2)) joined ∙
    ap (bit_and ((firsts + lasts) * 2 + (ax + bx))) right ∙ step in
    let few : bit_and (ax + bx) hy ≤ hy = and_le_r (ax + bx) hy in
    let here : bit_and (ax + bx) hy ≡ ax =
    omega (arith, e, all, few, bit_most (leb limit y), bit_most (eqb x a)) in
    let there : bit_and (firsts + lasts) hs + doubled (length ys) q ≡ firsts =
    omega (arith, e, all, here) in (
      (
        (λ is.
            let one : bit_and (ax + bx) hy ≡ hy =
            ap (λ (n : ℕ). bit_and n hy) (let s : ax + bx ≡ 1 =
            omega (arith, bit_is x a is, bit_is_not x b (λ d. omega (arith, d, is, lt))) in s) ∙ and_one (leb limit y) in
            elim (cases_lt y limit) [
              | inl below ↦ absurd (omega (arith, one, here, bit_is x a is, bit_off limit y below))
              | inr above ↦ above
            ]),
        (λ is.
            let other : ax ≡ 0 = bit_is_not x a (λ d. omega (arith, d, is, lt)) in
            let one : bit_and (ax + bx) hy ≡ hy =
            ap (λ (n : ℕ). bit_and n hy) (let s : ax + bx ≡ 1 =
            omega (arith, bit_is x b is, other) in s) ∙ and_one (leb limit y) in
            elim (cases_lt y limit) [
              | inl below ↦ below
              | inr above ↦ absurd (omega (arith, one, here, other, bit_on limit y above))
            ]),
      ),
      followed a b limit q (y ∷ ys) lt
          (ap (λ (n : ℕ). bit_and (firsts + lasts) n + doubled (length ys) q) (sym half) ∙ there),
    )

-- what the test of the masks says
pub followed_of_masks : (a b limit : ℕ) (xs : List ℕ) (first second high : ℕ) → length xs ≡ 16 → a < b
    → first ≡ mask_l (map (λ x. eqb x a) xs) → second ≡ mask_l (map (λ x. eqb x b) xs)
    → high ≡ mask_l (map (leb limit) xs) → bit_and (first + second) (high / 2) ≡ first % 32768 → AreFollowed xs a b limit
followed_of_masks a b limit [] first second high long lt f g h e = absurd (omega (arith, long))
followed_of_masks a b limit (x ∷ xs) first second high long lt f g h e =
    let over : ℕ = first / 32768 in
    let n : length xs ≡ 15 = omega (arith, long) in
    let times : doubled (length xs) over ≡ 32768 * over = ap (λ m. doubled m over) n ∙ omega arith in
    let sum : bit_and (first + second) (high / 2) + doubled (length xs) over ≡ first = omega (arith, e, times) in
    are_followed a b limit (x ∷ xs) (followed a b limit over (x ∷ xs) lt
    (subst (λ (m : ℕ). bit_and (m + mask_l (map (λ z. eqb z b) (x ∷ xs))) (mask_l (map (leb limit) (x ∷ xs)) / 2) +
    doubled (length xs) over ≡ m) f
    (subst₂ (λ (m k : ℕ). bit_and (first + m) (k / 2) + doubled (length xs) over ≡ first) g h sum)))

-- the test that no byte is one of the two
pub none_of_masks : (a b limit : ℕ) (xs : List ℕ) (first second : ℕ) → length xs ≡ 16 → a < b
    → first ≡ mask_l (map (λ x. eqb x a) xs) → second ≡ mask_l (map (λ x. eqb x b) xs) → first + second ≡ 0
    → AreFollowed xs a b limit
none_of_masks a b limit xs first second long lt f g e =
    let high : ℕ = mask_l (map (leb limit) xs) in
    let none : bit_and (first + second) (high / 2) ≡ 0 = ap (λ (n : ℕ). bit_and n (high / 2)) e ∙ and_zero_l (high / 2) in
    followed_of_masks a b limit xs first second high long lt f g refl (omega (arith, none, e))

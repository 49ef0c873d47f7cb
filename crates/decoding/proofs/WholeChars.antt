-- How many bytes of a block in UTF-8 are of whole characters.
use Rattle.std.proofs.Common.{◌≡◌, ℕ, zero, suc, ◌+◌, ◌*◌, ◌-◌, ◌/◌, ◌%◌, ◌^◌, ◌<◌, ◌≤◌, Bool, true, false, cond, leb, ltb, ◌&&◌, List, [], ◌∷◌, ◌++◌, length, get_or, map, take, drop, refl, sym, ap, ◌∙◌, subst, inl, inr, arith, take-add}
use Rattle.std.specs.Str.{IsUtf8}
use Rattle.std.proofs.Math.Seq.{take-append-add}
use Rattle.std.proofs.lemmas.Bool.{cases_lt, cases_eq, le-leb, lt-ltb}
use Rattle.std.proofs.lemmas.List.{get_or-map, length-append, take-take}
use Rattle.std.proofs.lemmas.Simd.{bit_mask_l}
use Rattle.std.proofs.lemmas.Str.{IsUtf8-append, IsUtf8-encode, IsUtf8-from_ascii, IsUtf8-nil}
use lib.Lanes.{mask_l}
use lib.Utf8.{low_scalar, scalar}
use Rattle.decoding.specs.Spelling.{AreFollowed, Continues}
use Rattle.decoding.proofs.Spellings.{of_two, of_three, of_four}
use Rattle.decoding.proofs.Utf8Blocks.{bit_on, bit_off, bit_most, doubled, Followed, followed_list, followed_next, mask_small, none_above, none_followed}

-- a code above the surrogates is that of a character
high_scalar : (c : ℕ) → 57344 ≤ c → c < 1114112 → scalar c ≡ true
high_scalar c least most =
    second (ltb c 55296) (leb 57344 c && ltb c 1114112) (λ i. le-leb 57344 c least i && lt-ltb c 1114112 most i)
  where
    second : (x y : Bool) → y ≡ true → cond x true y ≡ true
    second true y e = refl
    second false y e = e

-- the bytes of one character
ascii_byte : (x : ℕ) → x < 128 → IsUtf8 (x ∷ [])
ascii_byte x lt = IsUtf8-from_ascii (x ∷ []) (λ i. alone i)
  where
    alone : (i : ℕ) → get_or (x ∷ []) i 0 < 128
    alone zero = lt
    alone (suc i) = omega arith

two_bytes : (x y : ℕ) → 194 ≤ x → x < 224 → Continues y → IsUtf8 (x ∷ y ∷ [])
two_bytes x y least most f =
    let c : ℕ = (x - 192) * 64 + (y - 128) in
    subst IsUtf8 (of_two x y c least most f refl)
    (IsUtf8-encode c (low_scalar c (omega (arith, least, most, f.least, f.most))))

three_bytes : (x y z : ℕ) → 224 ≤ x → x < 240 → Continues y → Continues z →
    (x ≡ 224 → 160 ≤ y) × (x ≡ 237 → y < 160) → IsUtf8 (x ∷ y ∷ z ∷ [])
three_bytes x y z least most f g followed =
    let front : ℕ = (x - 224) * 64 + (y - 128) in
    let c : ℕ = front * 64 + (z - 128) in
    let enough : 32 ≤ front = elim (cases_eq x 224) [
      | inl e ↦ omega (arith, followed.0 e)
      | inr ne ↦ elim (cases_lt x 225) [
        | inl below ↦ absurd (ne (omega (arith, below, least)))
        | inr above ↦ omega (arith, above, f.least)
      ]
    ] in
    let is : scalar c ≡ true = elim (cases_lt x 237) [
      | inl below ↦ low_scalar c (omega (arith, least, below, f.least, f.most, g.least, g.most))
      | inr above ↦ elim (cases_eq x 237) [
        | inl e ↦ low_scalar c (omega (arith, e, followed.1 e, f.least, g.least, g.most))
        | inr ne ↦ elim (cases_lt x 238) [
          | inl below ↦ absurd (ne (omega (arith, below, above)))
          | inr higher ↦ high_scalar c (omega (arith, higher, most, f.least, f.most, g.least, g.most))
              (omega (arith, higher, most, f.least, f.most, g.least, g.most))
        ]
      ]
    ] in
    subst IsUtf8 (of_three x y z front c least most f g refl enough refl) (IsUtf8-encode c is)

four_bytes : (x y z w : ℕ) → 240 ≤ x → x < 245 → Continues y → Continues z → Continues w →
    (x ≡ 240 → 144 ≤ y) × (x ≡ 244 → y < 144) → IsUtf8 (x ∷ y ∷ z ∷ w ∷ [])
four_bytes x y z w least most f g h followed =
    let front : ℕ = (x - 240) * 64 + (y - 128) in
    let back : ℕ = (z - 128) * 64 + (w - 128) in
    let c : ℕ = front * 4096 + back in
    let enough : 16 ≤ front = elim (cases_eq x 240) [
      | inl e ↦ omega (arith, followed.0 e)
      | inr ne ↦ elim (cases_lt x 241) [
        | inl below ↦ absurd (ne (omega (arith, below, least)))
        | inr above ↦ omega (arith, above, f.least)
      ]
    ] in
    let few : front < 272 = elim (cases_eq x 244) [
      | inl e ↦ omega (arith, e, followed.1 e, f.least)
      | inr ne ↦ elim (cases_lt x 244) [
        | inl below ↦ omega (arith, below, least, f.least, f.most)
        | inr above ↦ absurd (ne (omega (arith, above, most)))
      ]
    ] in
    let small : back < 4096 = omega (arith, g.least, g.most, h.least, h.most) in
    subst IsUtf8 (of_four x y z w front back c least f g h refl enough refl refl)
    (IsUtf8-encode c (high_scalar c (omega (arith, enough)) (omega (arith, few, small))))

-- what the masks say of the rest of a block of which c is owed: 0, or 1, 3 or 7 for one, two or three continuation bytes
pub record Owes (c : ℕ) (xs : List ℕ) : Type 0 where
  pub over : ℕ
  pub owed : c + 3 * mask_l (map (leb 192) xs) + 4 * mask_l (map (leb 224) xs) + 8 * mask_l (map (leb 240) xs) ≡
      mask_l (map (leb 128) xs) + doubled (length xs) over
  pub pairs : mask_l (map (leb 194) xs) ≡ mask_l (map (leb 192) xs)
  pub most : mask_l (map (leb 245) xs) ≡ 0
  pub threes : Followed 224 237 160 xs
  pub fours : Followed 240 244 144 xs

-- the bytes after one that leaves d of c
after : (c d x : ℕ) (xs : List ℕ) → (is : Owes c (x ∷ xs))
    → d + 3 * mask_l (map (leb 192) xs) + 4 * mask_l (map (leb 224) xs) + 8 * mask_l (map (leb 240) xs) ≡
    mask_l (map (leb 128) xs) + doubled (length xs) is.over → Owes d xs
after c d x xs is owed = record {
  over = is.over;
  owed = owed;
  pairs = omega (arith, is.pairs, bit_most (leb 194 x), bit_most (leb 192 x));
  most = omega (arith, is.most);
  threes = followed_next 224 237 160 x xs is.threes;
  fours = followed_next 240 244 144 x xs is.fours;
}

-- a continuation byte is next if one is owed
continues : (d x : ℕ) (xs : List ℕ) → Owes (1 + 2 * d) (x ∷ xs) → Continues x × Owes d xs
continues d x xs is = elim (cases_lt x 128) [
  | inl below ↦
      absurd (omega (
        arith,
        is.owed,
        bit_off 128 x below,
        bit_off 192 x (omega (arith, below)),
        bit_off 224 x (omega (arith, below)),
        bit_off 240 x (omega (arith, below)),
      ))
  | inr above ↦ elim (cases_lt x 192) [
    | inl below ↦ (
      record { least = above; most = below },
      after (1 + 2 * d) d x xs is (omega (
        arith,
        is.owed,
        bit_on 128 x above,
        bit_off 192 x below,
        bit_off 224 x (omega (arith, below)),
        bit_off 240 x (omega (arith, below)),
      )),
    )
    | inr lead ↦ absurd (omega (arith, is.owed, bit_on 128 x above, bit_on 192 x lead))
  ]
]

-- how many of the last bytes are of a character that continues after them: what a byte adds that n bytes follow
abbrev own : ℕ → ℕ → ℕ
own x zero = cond (leb 192 x) 1 0
own x (suc zero) = cond (leb 224 x) 1 0 * 2
own x (suc (suc zero)) = cond (leb 240 x) 1 0 * 3
own x (suc (suc (suc n))) = 0

abbrev cut : List ℕ → ℕ
cut [] = 0
cut (x ∷ xs) = own x (length xs) + cut xs

own_below : (x n : ℕ) → x < 192 → own x n ≡ 0
own_below x zero lt = bit_off 192 x lt
own_below x (suc zero) lt = omega (arith, bit_off 224 x (omega (arith, lt)))
own_below x (suc (suc zero)) lt = omega (arith, bit_off 240 x (omega (arith, lt)))
own_below x (suc (suc (suc n))) lt = refl

own_two : (x n : ℕ) → x < 224 → own x (suc n) ≡ 0
own_two x zero lt = omega (arith, bit_off 224 x lt)
own_two x (suc zero) lt = omega (arith, bit_off 240 x (omega (arith, lt)))
own_two x (suc (suc n)) lt = refl

own_three : (x n : ℕ) → x < 240 → own x (suc (suc n)) ≡ 0
own_three x zero lt = omega (arith, bit_off 240 x lt)
own_three x (suc n) lt = refl

own_far : (x m n : ℕ) → m ≡ suc (suc (suc n)) → own x m ≡ 0
own_far x m n e = ap (own x) e

-- the bytes without these are well formed
record Whole (xs : List ℕ) : Type 0 where
  pub end : ℕ
  pub all : end + cut xs ≡ length xs
  pub text : IsUtf8 (take end xs)

more : (cs ys : List ℕ) → IsUtf8 cs → cut (cs ++ ys) ≡ cut ys → Whole ys → Whole (cs ++ ys)
more cs ys is same w = record {
  end = length cs + w.end;
  all = omega (arith, same, w.all, length-append cs ys);
  text = subst IsUtf8 (sym (take-append-add cs ys w.end)) (IsUtf8-append cs (take w.end ys) is w.text);
}

-- no character is whole
none : (xs : List ℕ) → cut xs ≡ length xs → Whole xs
none xs e = record { end = 0; all = omega (arith, e); text = IsUtf8-nil }

-- a character, and those after it
abbrev Shorter : List ℕ → Type 0
Shorter xs = (ys : List ℕ) → length ys ≤ length xs → Owes 0 ys → Whole ys

begin_two : (x : ℕ) (xs : List ℕ) → 194 ≤ x → x < 224 → Owes 1 xs → Shorter xs → Whole (x ∷ xs)
begin_two x [] least most is rest = none (x ∷ []) (omega (arith, bit_on 192 x (omega (arith, least))))
begin_two x (y ∷ ys) least most is rest =
    let f = continues 0 y ys is in
    more (x ∷ y ∷ []) ys (two_bytes x y least most f.0)
    (omega (arith, own_two x (length ys) most, own_below y (length ys) f.0.most)) (rest ys (omega arith) f.1)

begin_three : (x : ℕ) (xs : List ℕ) → 224 ≤ x → x < 240 → Followed 224 237 160 (x ∷ xs) → Owes 3 xs → Shorter xs →
    Whole (x ∷ xs)
begin_three x [] least most pair is rest = none (x ∷ []) (omega (arith, bit_on 192 x (omega (arith, least))))
begin_three x (y ∷ []) least most pair is rest =
    let f = continues 1 y [] is in
    none (x ∷ y ∷ []) (omega (arith, bit_on 224 x least, bit_off 192 y f.0.most))
begin_three x (y ∷ z ∷ zs) least most pair is rest =
    let f = continues 1 y (z ∷ zs) is in
    let g = continues 0 z zs f.1 in
    more (x ∷ y ∷ z ∷ []) zs (three_bytes x y z least most f.0 g.0 pair.0)
    (omega (
      arith,
      own_three x (length zs) most,
      own_below y (suc (length zs)) f.0.most,
      own_below z (length zs) g.0.most,
    ))
    (rest zs (omega arith) g.1)

begin_four : (x : ℕ) (xs : List ℕ) → 240 ≤ x → x < 245 → Followed 240 244 144 (x ∷ xs) → Owes 7 xs → Shorter xs →
    Whole (x ∷ xs)
begin_four x [] least most pair is rest = none (x ∷ []) (omega (arith, bit_on 192 x (omega (arith, least))))
begin_four x (y ∷ []) least most pair is rest =
    let f = continues 3 y [] is in
    none (x ∷ y ∷ []) (omega (arith, bit_on 224 x (omega (arith, least)), bit_off 192 y f.0.most))
begin_four x (y ∷ z ∷ []) least most pair is rest =
    let f = continues 3 y (z ∷ []) is in
    let g = continues 1 z [] f.1 in
    none (x ∷ y ∷ z ∷ [])
    (omega (arith, bit_on 240 x least, bit_off 224 y (omega (arith, f.0.most)), bit_off 192 z g.0.most))
begin_four x (y ∷ z ∷ w ∷ ws) least most pair is rest =
    let f = continues 3 y (z ∷ w ∷ ws) is in
    let g = continues 1 z (w ∷ ws) f.1 in
    let h = continues 0 w ws g.1 in
    more (x ∷ y ∷ z ∷ w ∷ []) ws (four_bytes x y z w least most f.0 g.0 h.0 pair.0)
    (omega (
      arith,
      own_below y (suc (suc (length ws))) f.0.most,
      own_below z (suc (length ws)) g.0.most,
      own_below w (length ws) h.0.most,
    ))
    (rest ws (omega arith) h.1)

-- a lead byte, if nothing is owed
lead_least : (c x : ℕ) (xs : List ℕ) → Owes c (x ∷ xs) → 192 ≤ x → 194 ≤ x
lead_least c x xs is lead = elim (cases_lt x 194) [
  | inl below ↦ absurd (omega (arith, is.pairs, bit_on 192 x lead, bit_off 194 x below))
  | inr above ↦ above
]

begin_lead : (x : ℕ) (xs : List ℕ) → 192 ≤ x → Owes 0 (x ∷ xs) → Shorter xs → Whole (x ∷ xs)
begin_lead x xs lead is rest =
    let h = bit_on 128 x (omega (arith, lead)) in
    let l = bit_on 192 x lead in
    elim (cases_lt x 224) [
      | inl below ↦
          begin_two x xs (lead_least 0 x xs is lead) below (after 0 1 x xs is (omega (
            arith,
            is.owed,
            h,
            l,
            bit_off 224 x below,
            bit_off 240 x (omega (arith, below)),
          ))) rest
      | inr three ↦ elim (cases_lt x 240) [
        | inl below ↦
            begin_three x xs three below is.threes (after 0 3 x xs is (omega (
              arith,
              is.owed,
              h,
              l,
              bit_on 224 x three,
              bit_off 240 x below,
            ))) rest
        | inr four ↦
            let few : x < 245 = elim (cases_lt x 245) [
              | inl below ↦ below
              | inr above ↦ absurd (omega (arith, is.most, bit_on 245 x above))
            ] in
            begin_four x xs four few is.fours (after 0 7 x xs is (omega (
              arith,
              is.owed,
              h,
              l,
              bit_on 224 x three,
              bit_on 240 x four,
            ))) rest
      ]
    ]

whole : (n : ℕ) (xs : List ℕ) → length xs ≤ n → Owes 0 xs → Whole xs
whole n [] le is = none [] refl
whole zero (x ∷ xs) le is = absurd (omega (arith, le))
whole (suc n) (x ∷ xs) le is =
    let rest : Shorter xs = λ ys less owes. whole n ys (omega (arith, less, le)) owes in
    elim (cases_lt x 128) [
      | inl below ↦
          let bits : Owes 0 xs = after 0 0 x xs is (omega (
            arith,
            is.owed,
            bit_off 128 x below,
            bit_off 192 x (omega (arith, below)),
            bit_off 224 x (omega (arith, below)),
            bit_off 240 x (omega (arith, below)),
          )) in
          more (x ∷ []) xs (ascii_byte x below) (omega (arith, own_below x (length xs) (omega (arith, below))))
          (rest xs (omega arith) bits)
      | inr above ↦ elim (cases_lt x 192) [
        | inl below ↦
            absurd (omega (
              arith,
              is.owed,
              bit_on 128 x above,
              bit_off 192 x below,
              bit_off 224 x (omega (arith, below)),
              bit_off 240 x (omega (arith, below)),
            ))
        | inr lead ↦ begin_lead x xs lead is rest
      ]
    ]

-- the last three bytes say how many are of a character that continues after the block
cut_last : (n : ℕ) (xs : List ℕ) → length xs ≡ suc (suc (suc n)) → cut xs ≡
    cond (leb 240 (get_or xs n 0)) 1 0 * 3 + cond (leb 224 (get_or xs (suc n) 0)) 1 0 * 2 +
    cond (leb 192 (get_or xs (suc (suc n)) 0)) 1 0
cut_last n [] e = absurd (omega (arith, e))
cut_last zero (x ∷ []) e = absurd (omega (arith, e))
cut_last zero (x ∷ y ∷ []) e = absurd (omega (arith, e))
cut_last zero (x ∷ y ∷ z ∷ []) e = omega arith
cut_last zero (x ∷ y ∷ z ∷ w ∷ ws) e = absurd (omega (arith, e))
cut_last (suc n) (x ∷ xs) e =
    omega (arith, own_far x (length xs) n (omega (arith, e)), cut_last n xs (omega (arith, e)))

bit_at : (y : ℕ) (xs : List ℕ) (i : ℕ) → i < length xs →
    mask_l (map (leb y) xs) / 2 ^ i % 2 ≡ cond (leb y (get_or xs i 0)) 1 0
bit_at y xs i lt =
    bit_mask_l (map (leb y) xs) i ∙ ap {B = ℕ} (λ b. cond b 1 0) (get_or-map (leb y) xs i 0 false lt)

-- what a test of the masks says of a block
pub whole_text : (xs : List ℕ) (n : ℕ) → length xs ≡ 16 → Owes 0 xs
    → n + (mask_l (map (leb 192) xs) / 32768 + mask_l (map (leb 224) xs) / 16384 % 2 * 2 +
    mask_l (map (leb 240) xs) / 8192 % 2 * 3) ≡ 16 → IsUtf8 (take n xs)
whole_text xs n long is e =
    let w = whole 16 xs (omega (arith, long)) is in
    let last = cut_last 13 xs long in
    let one : mask_l (map (leb 192) xs) / 32768 % 2 ≡ cond (leb 192 (get_or xs 15 0)) 1 0 =
    bit_at 192 xs 15 (omega (arith, long)) in
    let two : mask_l (map (leb 224) xs) / 16384 % 2 ≡ cond (leb 224 (get_or xs 14 0)) 1 0 =
    bit_at 224 xs 14 (omega (arith, long)) in
    let three : mask_l (map (leb 240) xs) / 8192 % 2 ≡ cond (leb 240 (get_or xs 13 0)) 1 0 =
    bit_at 240 xs 13 (omega (arith, long)) in
    let small : mask_l (map (leb 192) xs) < 65536 = mask_small (leb 192) xs long in
    let same : w.end ≡ n = omega (arith, w.all, last, long, e, one, two, three, small) in
    subst (λ (m : ℕ). IsUtf8 (take m xs)) same w.text

-- nothing is owed at the start of a block whose masks are as tested
pub owes_none : (xs : List ℕ) → length xs ≡ 16
    → mask_l (map (leb 192) xs) + (mask_l (map (leb 192) xs) * 2 + mask_l (map (leb 224) xs) * 4 +
    mask_l (map (leb 240) xs) * 8) % 65536 ≡ mask_l (map (leb 128) xs)
    → mask_l (map (leb 194) xs) ≡ mask_l (map (leb 192) xs) → mask_l (map (leb 245) xs) ≡ 0
    → AreFollowed xs 224 237 160 → AreFollowed xs 240 244 144 → Owes 0 xs
owes_none xs long e pairs most threes fours =
    let over : ℕ = (mask_l (map (leb 192) xs) * 2 + mask_l (map (leb 224) xs) * 4 + mask_l (map (leb 240) xs) * 8) /
    65536 in
    let times : doubled (length xs) over ≡ 65536 * over = ap (λ n. doubled n over) long ∙ omega arith in
    record {
      over = over;
      owed = omega (arith, e, times);
      pairs = pairs;
      most = most;
      threes = followed_list 224 237 160 xs threes;
      fours = followed_list 240 244 144 xs fours;
    }

-- the same without characters of three bytes or more
pub owes_pairs : (xs : List ℕ) → length xs ≡ 16 → mask_l (map (leb 224) xs) ≡ 0
    → mask_l (map (leb 192) xs) + mask_l (map (leb 192) xs) * 2 % 65536 ≡ mask_l (map (leb 128) xs)
    → mask_l (map (leb 194) xs) ≡ mask_l (map (leb 192) xs) → Owes 0 xs
owes_pairs xs long few e pairs =
    let fours = none_above 224 240 xs (omega arith) few in
    owes_none xs long (omega (arith, e, few, fours)) pairs (none_above 224 245 xs (omega arith) few)
    (none_followed 224 237 160 xs (omega arith) few) (none_followed 240 244 144 xs (omega arith) fours)

-- a well-formed front and these bytes after it are well formed
pub utf8_whole : (bs : List ℕ) (at n : ℕ) → n ≤ 16 → IsUtf8 (take at bs) → IsUtf8 (take n (take 16 (drop at bs))) →
    IsUtf8 (take (at + n) bs)
utf8_whole bs at n le front is =
    subst IsUtf8 (sym (take-add at n bs)) (IsUtf8-append (take at bs) (take n (drop at bs)) front
    (subst IsUtf8 (take-take n 16 (drop at bs) le) is))

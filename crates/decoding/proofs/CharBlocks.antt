-- Characters in blocks of 128 code points.
use Rattle.std.proofs.Common.{◌≡◌, ℕ, ◌+◌, ◌*◌, ◌-◌, ◌<◌, ◌≤◌, List, [], ◌∷◌, length, get_or, take, sym, ap, ◌∙◌, subst, inl, inr, arith}
use Rattle.std.specs.Str.{IsUtf8}
use Rattle.std.proofs.str.Laws.{of1, of2, of3, of4, shape}
use lib.Utf8.{scalar_cases}
use Rattle.decoding.specs.Spelling.{Continues, IsOfBytes, IsSpelled}
use Rattle.decoding.proofs.KnownChars.{begins_two, begins_three, begins_four, code_of_two, code_of_three, code_of_four, spelled_two, spelled_three, spelled_four}

-- the bytes after the first one are continuation bytes
later_of_two : (x y c : ℕ) → IsOfBytes (x ∷ y ∷ []) c → y < 192
later_of_two x y c is = elim (shape c (scalar_cases c is.scalar)) [
  | of1 l e ↦ absurd (omega (arith, ap length (sym e ∙ is.bytes_of)))
  | of2 a b l u f s e ↦
      let q : b ≡ y = ap (λ (l : List ℕ). get_or l 1 0) (sym e ∙ is.bytes_of) in omega (arith, f, q)
  | of3 a b d l u f g s e ↦ absurd (omega (arith, ap length (sym e ∙ is.bytes_of)))
  | of4 a b d h l u f g k s e ↦ absurd (omega (arith, ap length (sym e ∙ is.bytes_of)))
]

later_of_three : (x y z c : ℕ) → IsOfBytes (x ∷ y ∷ z ∷ []) c → (y < 192) × (z < 192)
later_of_three x y z c is = elim (shape c (scalar_cases c is.scalar)) [
  | of1 l e ↦ absurd (omega (arith, ap length (sym e ∙ is.bytes_of)))
  | of2 a b l u f s e ↦ absurd (omega (arith, ap length (sym e ∙ is.bytes_of)))
  | of3 a b d l u f g s e ↦
      let q : b ≡ y = ap (λ (l : List ℕ). get_or l 1 0) (sym e ∙ is.bytes_of) in
      let r : d ≡ z = ap (λ (l : List ℕ). get_or l 2 0) (sym e ∙ is.bytes_of) in
      (omega (arith, f, q), omega (arith, g, r))
  | of4 a b d h l u f g k s e ↦ absurd (omega (arith, ap length (sym e ∙ is.bytes_of)))
]

later_of_four : (x y z w c : ℕ) → IsOfBytes (x ∷ y ∷ z ∷ w ∷ []) c → (y < 192) × (z < 192) × (w < 192)
later_of_four x y z w c is = elim (shape c (scalar_cases c is.scalar)) [
  | of1 l e ↦ absurd (omega (arith, ap length (sym e ∙ is.bytes_of)))
  | of2 a b l u f s e ↦ absurd (omega (arith, ap length (sym e ∙ is.bytes_of)))
  | of3 a b d l u f g s e ↦ absurd (omega (arith, ap length (sym e ∙ is.bytes_of)))
  | of4 a b d h l u f g k s e ↦
      let q : b ≡ y = ap (λ (l : List ℕ). get_or l 1 0) (sym e ∙ is.bytes_of) in
      let r : d ≡ z = ap (λ (l : List ℕ). get_or l 2 0) (sym e ∙ is.bytes_of) in
      let t : h ≡ w = ap (λ (l : List ℕ). get_or l 3 0) (sym e ∙ is.bytes_of) in
      (omega (arith, f, q), omega (arith, g, r), omega (arith, k, t))
]

-- each character is in one of the blocks
few_blocks : (c : ℕ) (bs : List ℕ) → IsOfBytes bs c → c < 1114112
few_blocks c bs is = elim (scalar_cases c is.scalar) [ inl low ↦ omega (arith, low) | inr high ↦ high.1 ]

-- the character of two bytes at the offset, and what is known of these bytes
pub record Two (bs : List ℕ) (at : ℕ) : Type 0 where
  pub inside : at + 1 < length bs
  pub first : 192 ≤ get_or bs at 0
  pub second : Continues (get_or bs (at + 1) 0)
  pub spelled : IsSpelled bs at ((get_or bs at 0 - 192) * 64 + (get_or bs (at + 1) 0 - 128), at + 2)

pub two : (bs : List ℕ) (at : ℕ) → at < length bs → IsUtf8 bs → IsUtf8 (take at bs) → 128 ≤ get_or bs at 0 →
    get_or bs at 0 < 224 → Two bs at
two bs at inside all front least most =
    let x : ℕ = get_or bs at 0 in
    let y : ℕ = get_or bs (at + 1) 0 in
    let is = begins_two bs at inside all front least most in
    let code = code_of_two x y is.1.0 is.1.1 in
    record {
      inside = is.0;
      first = code.0;
      second = record { least = code.1; most = later_of_two x y is.1.0 is.1.1 };
      spelled = subst (λ (c : ℕ). IsSpelled bs at (c, at + 2)) code.2 (spelled_two bs at is.1.0 is.0 is.1.1);
    }

pub record Three (bs : List ℕ) (at : ℕ) : Type 0 where
  pub inside : at + 2 < length bs
  pub second : Continues (get_or bs (at + 1) 0)
  pub third : Continues (get_or bs (at + 2) 0)
  pub spelled : IsSpelled bs at (
    ((get_or bs at 0 - 224) * 64 + (get_or bs (at + 1) 0 - 128)) * 64 + (get_or bs (at + 2) 0 - 128),
    at + 3,
  )

pub three : (bs : List ℕ) (at : ℕ) → at < length bs → IsUtf8 bs → IsUtf8 (take at bs) → 224 ≤ get_or bs at 0 →
    get_or bs at 0 < 240 → Three bs at
three bs at inside all front least most =
    let x : ℕ = get_or bs at 0 in
    let y : ℕ = get_or bs (at + 1) 0 in
    let z : ℕ = get_or bs (at + 2) 0 in
    let is = begins_three bs at inside all front least most in
    let code = code_of_three x y z is.1.0 is.1.1 in
    let later = later_of_three x y z is.1.0 is.1.1 in
    record {
      inside = is.0;
      second = record { least = code.1; most = later.0 };
      third = record { least = code.2; most = later.1 };
      spelled = subst (λ (c : ℕ). IsSpelled bs at (c, at + 3)) code.3 (spelled_three bs at is.1.0 is.0 is.1.1);
    }

pub record Four (bs : List ℕ) (at : ℕ) : Type 0 where
  pub inside : at + 3 < length bs
  pub second : Continues (get_or bs (at + 1) 0)
  pub third : Continues (get_or bs (at + 2) 0)
  pub fourth : Continues (get_or bs (at + 3) 0)
  pub few : ((get_or bs at 0 - 240) * 64 + (get_or bs (at + 1) 0 - 128)) * 4096 < 1114112
  pub spelled : IsSpelled bs at (
    ((get_or bs at 0 - 240) * 64 + (get_or bs (at + 1) 0 - 128)) * 4096 +
        ((get_or bs (at + 2) 0 - 128) * 64 + (get_or bs (at + 3) 0 - 128)),
    at + 4,
  )

pub four : (bs : List ℕ) (at : ℕ) → at < length bs → IsUtf8 bs → IsUtf8 (take at bs) → 240 ≤ get_or bs at 0 → Four bs at
four bs at inside all front least =
    let x : ℕ = get_or bs at 0 in
    let y : ℕ = get_or bs (at + 1) 0 in
    let z : ℕ = get_or bs (at + 2) 0 in
    let w : ℕ = get_or bs (at + 3) 0 in
    let is = begins_four bs at inside all front least in
    let code = code_of_four x y z w is.1.0 is.1.1 in
    let later = later_of_four x y z w is.1.0 is.1.1 in
    record {
      inside = is.0;
      second = record { least = code.1; most = later.0 };
      third = record { least = code.2; most = later.1 };
      fourth = record { least = code.3; most = later.2 };
      few = omega (arith, code.4, few_blocks is.1.0 _ is.1.1);
      spelled = subst (λ (c : ℕ). IsSpelled bs at (c, at + 4)) code.4 (spelled_four bs at is.1.0 is.0 is.1.1);
    }

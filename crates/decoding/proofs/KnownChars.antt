-- Characters of bytes that are known to be well formed.
use Rattle.std.proofs.Common.{◌≡◌, ℕ, ◌+◌, ◌*◌, ◌-◌, ◌<◌, ◌≤◌, List, [], ◌∷◌, ◌++◌, length, get_or, take, drop, true, sym, ap, ◌∙◌, subst, rules, arith, take-add}
use Rattle.std.specs.Char.{encode_utf8, IsScalar}
use Rattle.std.specs.Str.{IsUtf8}
use Rattle.std.proofs.lemmas.List.{get_or-drop, length-drop}
use Rattle.std.proofs.str.Laws.{of1, of2, of3, of4, shape}
use Rattle.std.proofs.iter.FirstChar.{after_text}
use Rattle.std.specs.Prelude.{Option, None, Some}
use Rattle.std.specs.Option.{IsSome, SomeIff}
use Rattle.std.proofs.lemmas.Bool.{and_parts}
use lib.Utf8.{encodes, scalar, scalar_cases, scalars}
use Rattle.decoding.specs.Spelling.{IsOfBytes, IsSpelled}
use Rattle.decoding.proofs.Spellings.{split_two, split_three, split_four}

-- the codes of two, three and four bytes
pub code_of_two : (x y c : ℕ) → IsOfBytes (x ∷ y ∷ []) c → (192 ≤ x) × (128 ≤ y) × (c ≡ (x - 192) * 64 + (y - 128))
code_of_two x y c is = elim (shape c (scalar_cases c is.scalar)) [
  | of1 l e ↦ absurd (omega (arith, ap length (sym e ∙ is.bytes_of)))
  | of2 a b l u f s e ↦
      let p : a ≡ x = ap (λ (l : List ℕ). get_or l 0 0) (sym e ∙ is.bytes_of) in
      let q : b ≡ y = ap (λ (l : List ℕ). get_or l 1 0) (sym e ∙ is.bytes_of) in
      (omega (arith, l, p), omega (arith, f, q), omega (arith, l, f, s, p, q))
  | of3 a b d l u f g s e ↦ absurd (omega (arith, ap length (sym e ∙ is.bytes_of)))
  | of4 a b d h l u f g k s e ↦ absurd (omega (arith, ap length (sym e ∙ is.bytes_of)))
]

pub code_of_three : (x y z c : ℕ) → IsOfBytes (x ∷ y ∷ z ∷ []) c → (224 ≤ x) × (128 ≤ y) × (128 ≤ z) ×
    (c ≡ ((x - 224) * 64 + (y - 128)) * 64 + (z - 128))
code_of_three x y z c is = elim (shape c (scalar_cases c is.scalar)) [
  | of1 l e ↦ absurd (omega (arith, ap length (sym e ∙ is.bytes_of)))
  | of2 a b l u f s e ↦ absurd (omega (arith, ap length (sym e ∙ is.bytes_of)))
  | of3 a b d l u f g s e ↦
      let p : a ≡ x = ap (λ (l : List ℕ). get_or l 0 0) (sym e ∙ is.bytes_of) in
      let q : b ≡ y = ap (λ (l : List ℕ). get_or l 1 0) (sym e ∙ is.bytes_of) in
      let r : d ≡ z = ap (λ (l : List ℕ). get_or l 2 0) (sym e ∙ is.bytes_of) in
      (omega (arith, l, p), omega (arith, f, q), omega (arith, g, r), omega (arith, l, f, g, s, p, q, r))
  | of4 a b d h l u f g k s e ↦ absurd (omega (arith, ap length (sym e ∙ is.bytes_of)))
]

pub code_of_four : (x y z w c : ℕ) → IsOfBytes (x ∷ y ∷ z ∷ w ∷ []) c
    → (240 ≤ x) × (128 ≤ y) × (128 ≤ z) × (128 ≤ w) ×
    (c ≡ ((x - 240) * 64 + (y - 128)) * 4096 + ((z - 128) * 64 + (w - 128)))
code_of_four x y z w c is = elim (shape c (scalar_cases c is.scalar)) [
  | of1 l e ↦ absurd (omega (arith, ap length (sym e ∙ is.bytes_of)))
  | of2 a b l u f s e ↦ absurd (omega (arith, ap length (sym e ∙ is.bytes_of)))
  | of3 a b d l u f g s e ↦ absurd (omega (arith, ap length (sym e ∙ is.bytes_of)))
  | of4 a b d h l u f g k s e ↦
      let p : a ≡ x = ap (λ (l : List ℕ). get_or l 0 0) (sym e ∙ is.bytes_of) in
      let q : b ≡ y = ap (λ (l : List ℕ). get_or l 1 0) (sym e ∙ is.bytes_of) in
      let r : d ≡ z = ap (λ (l : List ℕ). get_or l 2 0) (sym e ∙ is.bytes_of) in
      let t : h ≡ w = ap (λ (l : List ℕ). get_or l 3 0) (sym e ∙ is.bytes_of) in (
        omega (arith, l, p),
        omega (arith, f, q),
        omega (arith, g, r),
        omega (arith, k, t),
        omega (arith, l, f, g, k, s, p, q, r, t),
      )
]

-- the conversion of such a code to a character succeeds
pub is_some : (r : Option ℕ) (code c : ℕ) → SomeIff r (IsScalar code) code → c ≡ code → IsScalar c → IsSome r
is_some None code c h same is = absurd (h (subst IsScalar same is))
is_some (Some d) code c h same is = search rules

pub is_of : (r : Option ℕ) (code c d : ℕ) (bytes : List ℕ) → SomeIff r (IsScalar code) code → r ≡ Some d → c ≡ code →
    IsOfBytes bytes c → IsOfBytes bytes d
is_of r code c d bytes h made same is =
    let t = subst (λ (o : Option ℕ). SomeIff o (IsScalar code) code) made h in
    subst (IsOfBytes bytes) (same ∙ sym t.1) is

-- the bytes begin with a character
record Begins (bs : List ℕ) : Type 0 where
  pub c : ℕ
  pub rest : List ℕ
  pub is : IsScalar c
  pub split : bs ≡ encode_utf8 c ++ rest

begins : (bs cs : List ℕ) → scalars cs ≡ true → encodes cs ≡ bs → 0 < length bs → Begins bs
begins bs [] p e some = absurd (omega (arith, some, ap length e))
begins bs (c ∷ cs) p e some = record {
  c = c;
  rest = encodes cs;
  is = (and_parts (scalar c) (scalars cs) p).0;
  split =
      sym e;
}

-- a character begins after a well-formed front
first_char : (bs : List ℕ) (at : ℕ) → at < length bs → IsUtf8 bs → IsUtf8 (take at bs) → Begins (drop at bs)
first_char bs at inside all front = let t = after_text bs at all front in
    begins (drop at bs) t.0 t.1.0 t.1.1 (omega (arith, length-drop at bs, inside))

byte_of : (bs : List ℕ) (at k : ℕ) (p : List ℕ) → drop at bs ≡ p → get_or p k 0 ≡ get_or bs (at + k) 0
byte_of bs at k p e = sym (ap (λ (l : List ℕ). get_or l k 0) e) ∙ get_or-drop at bs k 0

first_byte : (bs : List ℕ) (at : ℕ) (p : List ℕ) → drop at bs ≡ p → get_or p 0 0 ≡ get_or bs at 0
first_byte bs at p e = byte_of bs at 0 p e ∙ ap (λ n. get_or bs n 0) (let z : at + 0 ≡ at = omega arith in z)

-- the first byte says whether it has two, three or four bytes
pub begins_two : (bs : List ℕ) (at : ℕ) → at < length bs → IsUtf8 bs → IsUtf8 (take at bs) → 128 ≤ get_or bs at 0 →
    get_or bs at 0 < 224
    → (at + 1 < length bs) × ((c : ℕ) × IsOfBytes (get_or bs at 0 ∷ get_or bs (at + 1) 0 ∷ []) c)
begins_two bs at inside all front least most =
    let h = first_char bs at inside all front in
    elim (shape h.c (scalar_cases h.c h.is)) [
      | of1 l e ↦ absurd (omega (arith, l, least, first_byte bs at _ (h.split ∙ ap (λ (p : List ℕ). p ++ h.rest) e)))
      | of2 a b l u f s e ↦
          let split : drop at bs ≡ a ∷ b ∷ h.rest = h.split ∙ ap (λ (p : List ℕ). p ++ h.rest) e in
          let p : a ≡ get_or bs at 0 = first_byte bs at _ split in
          let q : b ≡ get_or bs (at + 1) 0 = byte_of bs at 1 _ split in (
            omega (arith, length-drop at bs, ap length split),
            (h.c, record { scalar = h.is; bytes_of = e ∙ (λ k. p k ∷ q k ∷ []) }),
          )
      | of3 a b d l u f g s e ↦
          absurd (omega (arith, l, most, first_byte bs at _ (h.split ∙ ap (λ (p : List ℕ). p ++ h.rest) e)))
      | of4 a b d w l u f g k s e ↦
          absurd (omega (arith, l, most, first_byte bs at _ (h.split ∙ ap (λ (p : List ℕ). p ++ h.rest) e)))
    ]

pub begins_three : (bs : List ℕ) (at : ℕ) → at < length bs → IsUtf8 bs → IsUtf8 (take at bs) → 224 ≤ get_or bs at 0 →
    get_or bs at 0 < 240
    → (at + 2 < length bs) × ((c : ℕ) × IsOfBytes (get_or bs at 0 ∷ get_or bs (at + 1) 0 ∷ get_or bs (at + 2) 0 ∷ []) c)
begins_three bs at inside all front least most =
    let h = first_char bs at inside all front in
    elim (shape h.c (scalar_cases h.c h.is)) [
      | of1 l e ↦ absurd (omega (arith, l, least, first_byte bs at _ (h.split ∙ ap (λ (p : List ℕ). p ++ h.rest) e)))
      | of2 a b l u f s e ↦
          absurd (omega (arith, u, least, first_byte bs at _ (h.split ∙ ap (λ (p : List ℕ). p ++ h.rest) e)))
      | of3 a b d l u f g s e ↦
          let split : drop at bs ≡ a ∷ b ∷ d ∷ h.rest = h.split ∙ ap (λ (p : List ℕ). p ++ h.rest) e in
          let p : a ≡ get_or bs at 0 = first_byte bs at _ split in
          let q : b ≡ get_or bs (at + 1) 0 = byte_of bs at 1 _ split in
          let r : d ≡ get_or bs (at + 2) 0 = byte_of bs at 2 _ split in (
            omega (arith, length-drop at bs, ap length split),
            (h.c, record { scalar = h.is; bytes_of = e ∙ (λ k. p k ∷ q k ∷ r k ∷ []) }),
          )
      | of4 a b d w l u f g k s e ↦
          absurd (omega (arith, l, most, first_byte bs at _ (h.split ∙ ap (λ (p : List ℕ). p ++ h.rest) e)))
    ]

pub begins_four : (bs : List ℕ) (at : ℕ) → at < length bs → IsUtf8 bs → IsUtf8 (take at bs) → 240 ≤ get_or bs at 0
    → (at + 3 < length bs) ×
    ((c : ℕ) × IsOfBytes (get_or bs at 0 ∷ get_or bs (at + 1) 0 ∷ get_or bs (at + 2) 0 ∷ get_or bs (at + 3) 0 ∷
    []) c)
begins_four bs at inside all front least =
    let h = first_char bs at inside all front in
    elim (shape h.c (scalar_cases h.c h.is)) [
      | of1 l e ↦ absurd (omega (arith, l, least, first_byte bs at _ (h.split ∙ ap (λ (p : List ℕ). p ++ h.rest) e)))
      | of2 a b l u f s e ↦
          absurd (omega (arith, u, least, first_byte bs at _ (h.split ∙ ap (λ (p : List ℕ). p ++ h.rest) e)))
      | of3 a b d l u f g s e ↦
          absurd (omega (arith, u, least, first_byte bs at _ (h.split ∙ ap (λ (p : List ℕ). p ++ h.rest) e)))
      | of4 a b d w l u f g m s e ↦
          let split : drop at bs ≡ a ∷ b ∷ d ∷ w ∷ h.rest = h.split ∙ ap (λ (p : List ℕ). p ++ h.rest) e in
          let p : a ≡ get_or bs at 0 = first_byte bs at _ split in
          let q : b ≡ get_or bs (at + 1) 0 = byte_of bs at 1 _ split in
          let r : d ≡ get_or bs (at + 2) 0 = byte_of bs at 2 _ split in
          let t : w ≡ get_or bs (at + 3) 0 = byte_of bs at 3 _ split in (
            omega (arith, length-drop at bs, ap length split),
            (h.c, record { scalar = h.is; bytes_of = e ∙ (λ k. p k ∷ q k ∷ r k ∷ t k ∷ []) }),
          )
    ]

-- what these bytes spell
pub spelled_two : (bs : List ℕ) (at c : ℕ) → at + 1 < length bs →
    IsOfBytes (get_or bs at 0 ∷ get_or bs (at + 1) 0 ∷ []) c → IsSpelled bs at (c, at + 2)
spelled_two bs at c lt is = record {
  scalar = is.scalar;
  following = omega (arith, ap length is.bytes_of);
  inside = omega (arith, lt);
  spelled = take-add at 2 bs ∙ ap (λ (p : List ℕ). take at bs ++ p) (ap (take 2) (split_two bs at lt) ∙
      sym is.bytes_of);
}

pub spelled_three : (bs : List ℕ) (at c : ℕ) → at + 2 < length bs →
    IsOfBytes (get_or bs at 0 ∷ get_or bs (at + 1) 0 ∷ get_or bs (at + 2) 0 ∷ []) c
    → IsSpelled bs at (c, at + 3)
spelled_three bs at c lt is = record {
  scalar = is.scalar;
  following = omega (arith, ap length is.bytes_of);
  inside = omega (arith, lt);
  spelled = take-add at 3 bs ∙ ap (λ (p : List ℕ). take at bs ++ p) (ap (take 3) (split_three bs at lt) ∙
      sym is.bytes_of);
}

pub spelled_four : (bs : List ℕ) (at c : ℕ) → at + 3 < length bs
    → IsOfBytes (get_or bs at 0 ∷ get_or bs (at + 1) 0 ∷ get_or bs (at + 2) 0 ∷ get_or bs (at + 3) 0 ∷ []) c →
    IsSpelled bs at (c, at + 4)
spelled_four bs at c lt is = record {
  scalar = is.scalar;
  following = omega (arith, ap length is.bytes_of);
  inside = omega (arith, lt);
  spelled = take-add at 4 bs ∙ ap (λ (p : List ℕ). take at bs ++ p) (ap (take 4) (split_four bs at lt) ∙
      sym is.bytes_of);
}

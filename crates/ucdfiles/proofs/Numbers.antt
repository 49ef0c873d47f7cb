-- Numbers of decompositions: one more, and the map that stores them.
use Rattle.std.proofs.Common.{◌≡◌, ℕ, ◌+◌, true, false, cond, None, Some, List, [], ◌∷◌, length, map, refl, sym, ap, ◌∙◌, arith, ◌⊎◌, inl, inr}
use Rattle.std.proofs.lemmas.Bool.{cases_Bool}
use Rattle.std.proofs.Common.{Ordering, Less, Equal, Greater}
use Rattle.std.specs.Ordering.{is_eq, nat_cmp, match_ordering}
use Rattle.std.specs.Cmp.Lexicographic.{slice_cmp}
use Rattle.std.specs.Map.{lookup}
use Rattle.std.specs.BTreeMap.{insert_entry}
use Rattle.std.specs.Str.{bytes_eq}
use Rattle.std.proofs.lemmas.Slice.Eq.{bytes_eq-Decides}
use Rattle.std.proofs.lemmas.Map.Text.{is_eq-slice_cmp}
use Rattle.ucdfiles.specs.Keys.{number_in, IsNumbering, Keeps}

module _ {K : Type 0} (items : K → List ℕ) where
  -- the entries, with the contents of their keys
  abbrev pub read : List (K × ℕ) → List (List ℕ × ℕ)
  read es = map (λ (e : K × ℕ). (items e.0, e.1)) es

  -- keys are compared by their contents
  abbrev pub compared : K → K → Ordering
  compared a b = slice_cmp nat_cmp (items a) (items b)

  pub number_in-lookup : (es : List (K × ℕ)) (a : List ℕ) →
      number_in (read es) a ≡ lookup (λ k. is_eq (slice_cmp nat_cmp a (items k))) es
  number_in-lookup [] a = refl
  number_in-lookup (e ∷ es) a = grind (arith, is_eq-slice_cmp, number_in-lookup es a)

  module _ (e : K × ℕ) (es : List (K × ℕ)) (k : K) (n : ℕ) (a : List ℕ) where
    after : (later : number_in (read es) (items k) ≡ None →
        number_in (read (insert_entry compared es k n)) a ≡
        cond (bytes_eq a (items k)) (Some n) (number_in (read es) a))
        → (o : Ordering) → is_eq o ≡ bytes_eq (items k) (items e.0) → number_in (read (e ∷ es)) (items k) ≡ None
        → number_in (read (match_ordering o ((k, n) ∷ e ∷ es) ((e.0, n) ∷ es) (e ∷ insert_entry compared es k n))) a ≡
        cond (bytes_eq a (items k)) (Some n) (number_in (read (e ∷ es)) a)
    after later Less is none = refl
    after later Equal is none = absurd (let found : number_in (read (e ∷ es)) (items k) ≡ Some e.1 = rw (← is) refl in
        let bad : ⊥ = cc in bad)
    after later Greater is none =
        let apart : bytes_eq (items k) (items e.0) ≡ false = sym is in
        let rest : number_in (read es) (items k) ≡ None = rw apart at none in
        let inner = later rest in
        elim (cases_Bool (bytes_eq a (items k))) [
          | inl same ↦
              let whole : a ≡ items k = (bytes_eq-Decides a (items k)).0 same in
              let other : bytes_eq a (items e.0) ≡ false = ap (λ b. bytes_eq b (items e.0)) whole ∙ apart in
              rw (other, inner, same) refl
          | inr other ↦ rw (inner, other) refl
        ]

  pub number_in-insert : (es : List (K × ℕ)) (k : K) (n : ℕ) (a : List ℕ) → number_in (read es) (items k) ≡ None
      → number_in (read (insert_entry compared es k n)) a ≡ cond (bytes_eq a (items k)) (Some n) (number_in (read es) a)
  number_in-insert [] k n a none = refl
  number_in-insert (e ∷ es) k n a none =
      after e es k n a (λ rest. number_in-insert es k n a rest) (slice_cmp nat_cmp (items k) (items e.0))
      (is_eq-slice_cmp (items k) (items e.0)) none

-- a new decomposition with the next number
module _ (old new : List (List ℕ × ℕ)) (key : List ℕ) (none : number_in old key ≡ None)
    (looks : (a : List ℕ) → number_in new a ≡ cond (bytes_eq a key) (Some (length old)) (number_in old a)) where
  itself : bytes_eq key key ≡ true
  itself = (bytes_eq-Decides key key).1 refl

  pub number_in-new : number_in new key ≡ Some (length old)
  number_in-new = looks key ∙ rw itself refl

  cases : (a : List ℕ) (n : ℕ) → number_in new a ≡ Some n → ((a ≡ key) × (n ≡ length old)) ⊎ (number_in old a ≡ Some n)
  cases a n is = grind (arith, bytes_eq-Decides)

  pub keeps-new : Keeps old new
  keeps-new a n is = grind (arith, bytes_eq-Decides)

  pub numbering-new : IsNumbering old → length new ≡ length old + 1 → IsNumbering new
  numbering-new h counts = grind (arith, cases)

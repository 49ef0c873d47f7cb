-- The index that an item has once another one occurs after the item at k.
use Rattle.std.specs.Prelude.{Option, Some, None, ℕ, zero, suc, ◌+◌, ◌-◌, ◌<◌, ◌≤◌, Bool, true, false, ◌==◌, nat_lt, nat_le, ◌≡◌, List, [], ◌∷◌, ◌++◌, length, filter, if◌then◌else◌, slice_index_or, refl}
use Rattle.std.specs.Option.{option_map}
use Rattle.std.proofs.Common.{arith, ap, sym, ◌∙◌, ◌⊎◌, inl, inr}
use Rattle.std.proofs.lemmas.Bool.{cases_Bool, cases_lt, cond-true, cond-false, lt-ltb, le-ltb, le-leb, lt-leb, eq-eqb, ne_eqb}
use Rattle.std.proofs.lemmas.List.Elements.{filter-append}
use Rattle.std.proofs.Common.{length-append}
use Rattle.units.specs.Positions.{positions_from, first_from, last_below, is_before}
use Rattle.units.proofs.Positions.{positions_from-next}
use Rattle.compress.specs.Spread.{put}

abbrev pub skip : ℕ → ℕ → ℕ
skip k zero = zero
skip zero (suc i) = suc (suc i)
skip (suc k) (suc i) = suc (skip k i)

pub skip_low : (k i : ℕ) → i ≤ k → skip k i ≡ i
skip_low k zero h = refl
skip_low zero (suc i) h = absurd (omega arith)
skip_low (suc k) (suc i) h = ap (λ n. suc n) (skip_low k i (omega arith))

pub skip_high : (k i : ℕ) → k < i → skip k i ≡ suc i
skip_high k zero h = absurd (omega arith)
skip_high zero (suc i) h = refl
skip_high (suc k) (suc i) h = ap (λ n. suc n) (skip_high k i (omega arith))

pub skips : (k i : ℕ) → ((i ≤ k) × (skip k i ≡ i)) ⊎ ((k < i) × (skip k i ≡ suc i))
skips k i =
    elim (cases_lt k i) [
      | inl h ↦ inr (h, skip_high k i h)
      | inr h ↦ inl (omega arith, skip_low k i (omega arith))
    ]

pub skip_apart : (k i : ℕ) → skip k i ≡ suc k → ⊥
skip_apart k i e =
    elim (skips k i) [
      | inl (h, f) ↦ omega arith
      | inr (h, f) ↦ omega arith
    ]

-- order stays
pub skip_less : (k i j : ℕ) → i < j → skip k i < skip k j
skip_less k i j h =
    elim (skips k i) [
      | inl (a, e) ↦ elim (skips k j) [
        | inl (b, f) ↦ omega arith
        | inr (b, f) ↦ omega arith
      ]
      | inr (a, e) ↦ elim (skips k j) [
        | inl (b, f) ↦ omega arith
        | inr (b, f) ↦ omega arith
      ]
    ]

pub skip_at_most : (k i j : ℕ) → i ≤ j → skip k i ≤ skip k j
skip_at_most k i j h =
    elim (skips k i) [
      | inl (a, e) ↦ elim (skips k j) [
        | inl (b, f) ↦ omega arith
        | inr (b, f) ↦ omega arith
      ]
      | inr (a, e) ↦ elim (skips k j) [
        | inl (b, f) ↦ omega arith
        | inr (b, f) ↦ omega arith
      ]
    ]

pub skip-lt : (k i j : ℕ) → nat_lt (skip k i) (skip k j) ≡ nat_lt i j
skip-lt k i j =
    elim (cases_lt i j) [
      | inl h ↦ lt-ltb (skip k i) (skip k j) (skip_less k i j h) ∙ sym (lt-ltb i j h)
      | inr h ↦ le-ltb (skip k i) (skip k j) (skip_at_most k j i h) ∙ sym (le-ltb i j h)
    ]

pub skip-le : (k i j : ℕ) → nat_le (skip k i) (skip k j) ≡ nat_le i j
skip-le k i j =
    elim (cases_lt j i) [
      | inl h ↦ lt-leb (skip k i) (skip k j) (skip_less k j i h) ∙ sym (lt-leb i j h)
      | inr h ↦ le-leb (skip k i) (skip k j) (skip_at_most k i j h) ∙ sym (le-leb i j h)
    ]

pub skip-eq : (k i j : ℕ) → (skip k i == skip k j) ≡ (i == j)
skip-eq k i j =
    elim (cases_lt i j) [
      | inl h ↦ (let l = skip_less k i j h in ne_eqb (skip k i) (skip k j) (λ e. omega arith) ∙ sym (ne_eqb i j (λ e. omega arith)))
      | inr h ↦ elim (cases_lt j i) [
        | inl g ↦ (let l = skip_less k j i g in ne_eqb (skip k i) (skip k j) (λ e. omega arith) ∙ sym (ne_eqb i j (λ e. omega arith)))
        | inr g ↦ (let e : i ≡ j = omega arith in eq-eqb (skip k i) (skip k j) (ap (skip k) e) ∙ sym (eq-eqb i j e))
      ]
    ]

pub skip-never : (k i : ℕ) → (skip k i == suc k) ≡ false
skip-never k i = ne_eqb (skip k i) (suc k) (skip_apart k i)

-- the next index, or the one after that of the item that was put in
pub skip_next : (k n : ℕ) → (skip k (suc n) ≡ suc (skip k n)) ⊎ ((skip k (suc n) ≡ suc (suc k)) × ((skip k n ≡ k) × (n ≡ k)))
skip_next k n =
    elim (skips k (suc n)) [
      | inl (h, e) ↦ inl (e ∙ ap (λ m. suc m) (sym (skip_low k n (omega arith))))
      | inr (h, e) ↦ elim (skips k n) [
        | inl (g, f) ↦ inr (omega arith, (omega arith, omega arith))
        | inr (g, f) ↦ inl (omega arith)
      ]
    ]

-- what occurs there
pub at-skip : {A : Type 0} (k : ℕ) (x : A) (ys : List A) (i : ℕ) (d : A) → slice_index_or (put k x ys) (skip k i) d ≡ slice_index_or ys i d
at-skip k x [] i d = refl
at-skip zero x (y ∷ ys) zero d = refl
at-skip zero x (y ∷ ys) (suc i) d = refl
at-skip (suc k) x (y ∷ ys) zero d = refl
at-skip (suc k) x (y ∷ ys) (suc i) d = at-skip k x ys i d

pub at-put : {A : Type 0} (k : ℕ) (x : A) (ys : List A) (d : A) → k < length ys → slice_index_or (put k x ys) (suc k) d ≡ x
at-put k x [] d h = absurd (omega arith)
at-put zero x (y ∷ ys) d h = refl
at-put (suc k) x (y ∷ ys) d h = at-put k x ys d (omega arith)

pub length-put : {A : Type 0} (k : ℕ) (x : A) (ys : List A) → length (put k x ys) ≡ skip k (length ys)
length-put k x [] = refl
length-put zero x (y ∷ ys) = refl
length-put (suc k) x (y ∷ ys) = ap (λ n. suc n) (length-put k x ys)

-- searches
skip_if : (k : ℕ) (b : Bool) (n : ℕ) (found : Option ℕ) → option_map (skip k) (if b then Some n else found) ≡ (if b then Some (skip k n) else option_map (skip k) found)
skip_if k true n found = refl
skip_if k false n found = refl

module _ (k : ℕ) (f g : ℕ → Bool) (same : (i : ℕ) → g (skip k i) ≡ f i) (never : g (suc k) ≡ false) where
  pub last_below-skip : (n : ℕ) → last_below g (skip k n) ≡ option_map (skip k) (last_below f n)
  last_below-skip zero = refl
  last_below-skip (suc n) =
      let step : last_below g (suc (skip k n)) ≡ option_map (skip k) (last_below f (suc n)) =
      ap (λ (b : Bool). if b then Some (skip k n) else last_below g (skip k n)) (same n)
      ∙ ap (λ (r : Option ℕ). if f n then Some (skip k n) else r) (last_below-skip n)
      ∙ sym (skip_if k (f n) n (last_below f n)) in
      elim (skip_next k n) [
        | inl e ↦ ap (last_below g) e ∙ step
        | inr (e, (h, i)) ↦
            ap (last_below g) e ∙ cond-false (g (suc k)) (Some (suc k)) (last_below g (suc k)) never
            ∙ ap (λ m. last_below g (suc m)) (sym h) ∙ step
      ]

  pub first_from-skip : (c a more : ℕ) → skip k a + more ≡ skip k (a + c) → first_from g (skip k a) more ≡ option_map (skip k) (first_from f a c)
  first_from-skip zero a more e =
      let z : a + 0 ≡ a = omega arith in
      let n : more ≡ 0 = omega (arith, ap (skip k) z) in
      ap (first_from g (skip k a)) n
  first_from-skip (suc c) a zero e =
      absurd (omega (arith, skip_less k a (a + suc c) (omega arith)))
  first_from-skip (suc c) a (suc more) e =
      let one : a + 1 ≡ suc a = omega arith in
      let on : (a + 1) + c ≡ a + suc c = omega arith in
      let step : (rest : ℕ) → skip k (a + 1) + rest ≡ skip k (a + suc c) → first_from g (skip k a + 1) more ≡ first_from g (skip k (a + 1)) rest → first_from g (skip k a) (suc more) ≡ option_map (skip k) (first_from f a (suc c)) =
      λ rest h d.
      ap (λ (b : Bool). if b then Some (skip k a) else first_from g (skip k a + 1) more) (same a)
      ∙ ap (λ (r : Option ℕ). if f a then Some (skip k a) else r) (d ∙ first_from-skip c (a + 1) rest (h ∙ ap (skip k) (sym on)))
      ∙ sym (skip_if k (f a) a (first_from f (a + 1) c)) in
      elim (skip_next k a) [
        | inl h ↦
            (let n : skip k (a + 1) ≡ suc (skip k a) = ap (skip k) one ∙ h in
            let m : skip k a + 1 ≡ skip k (a + 1) = omega arith in
            step more (omega arith) (ap (λ s. first_from g s more) m))
        | inr (h, (i, j)) ↦
            (let n : skip k (a + 1) ≡ suc (suc k) = ap (skip k) one ∙ h in
            let reach = skip_at_most k (a + 1) (a + suc c) (omega arith) in
            let m : skip k a + 1 ≡ suc k = omega arith in
            let rest : ℕ = more - 1 in
            let some : more ≡ suc (more - 1) = omega arith in
            let q : suc k + 1 ≡ skip k (a + 1) = omega arith in
            step (more - 1) (omega arith)
            (ap (λ s. first_from g s more) m ∙ ap (first_from g (suc k)) some
            ∙ cond-false (g (suc k)) (Some (suc k)) (first_from g (suc k + 1) (more - 1)) never ∙ ap (λ s. first_from g s (more - 1)) q))
      ]

  -- how many there are
  count_next : (t : ℕ → Bool) (n : ℕ) → length (filter t (positions_from 0 (suc n))) ≡ length (filter t (positions_from 0 n)) + (if t n then 1 else 0)
  count_next t n =
      let z : 0 + n ≡ n = omega arith in
      let last : length (filter t (n ∷ [])) ≡ (if t n then 1 else 0) = elim (cases_Bool (t n)) [
        | inl h ↦ ap length (cond-true (t n) (n ∷ []) [] h) ∙ sym (cond-true (t n) 1 0 h)
        | inr h ↦ ap length (cond-false (t n) (n ∷ []) [] h) ∙ sym (cond-false (t n) 1 0 h)
      ] in
      ap (λ (ps : List ℕ). length (filter t ps)) (positions_from-next 0 n ∙ ap (λ m. positions_from 0 n ++ (m ∷ [])) z)
      ∙ ap length (filter-append t (positions_from 0 n) (n ∷ []))
      ∙ length-append (filter t (positions_from 0 n)) (filter t (n ∷ []))
      ∙ ap (λ m. length (filter t (positions_from 0 n)) + m) last

  pub count-skip : (n : ℕ) → length (filter g (positions_from 0 (skip k n))) ≡ length (filter f (positions_from 0 n))
  count-skip zero = refl
  count-skip (suc n) =
      let step : length (filter g (positions_from 0 (suc (skip k n)))) ≡ length (filter f (positions_from 0 (suc n))) =
      count_next g (skip k n) ∙ ap (λ (b : Bool). length (filter g (positions_from 0 (skip k n))) + (if b then 1 else 0)) (same n)
      ∙ ap (λ m. m + (if f n then 1 else 0)) (count-skip n) ∙ sym (count_next f n) in
      elim (skip_next k n) [
        | inl e ↦ ap (λ m. length (filter g (positions_from 0 m))) e ∙ step
        | inr (e, (h, i)) ↦
            (let none : length (filter g (positions_from 0 (suc (suc k)))) ≡ length (filter g (positions_from 0 (suc k))) =
            count_next g (suc k) ∙ ap (λ m. length (filter g (positions_from 0 (suc k))) + m) (cond-false (g (suc k)) 1 0 never) ∙ omega arith in
            ap (λ m. length (filter g (positions_from 0 m))) e ∙ none ∙ ap (λ m. length (filter g (positions_from 0 (suc m)))) (sym h) ∙ step)
      ]

pub is_before-skip : (k p : ℕ) (end : Option ℕ) → is_before (skip k p) (option_map (skip k) end) ≡ is_before p end
is_before-skip k p None = refl
is_before-skip k p (Some q) = skip-lt k p q

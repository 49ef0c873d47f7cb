-- All sequences together contain each remaining position once.
use Rattle.std.proofs.lemmas.Bool.Decides.{nat_tests}
use Rattle.std.proofs.lemmas.Grind.{common_steps}
use Rattle.std.specs.Prelude.{Option, Some, None, ℕ, zero, suc, Bool, true, false, not, ◌==◌, ◌+◌, ◌<◌, ◌≤◌, ◌≡◌, List, [], ◌∷◌, ◌++◌, cond, map, filter, IfSome, is_some, refl}
use Rattle.std.specs.List.{flat_map, list_any}
use Rattle.std.proofs.Common.{arith, ap, sym, ◌∙◌, subst, inl, inr}
use Rattle.std.proofs.lemmas.Bool.{cases_Bool, cases_eq, cases_lt, cond-true, cond-false, false≢true, eqb-true, eq-eqb, ne_eqb, and_parts, and_from, false_from_ne_true, not-true, not_from_false}
use Rattle.std.proofs.lemmas.List.{get_or_past}
use Rattle.std.proofs.lemmas.List.Sums.{sum_by-cons, sum_by-append}
use Rattle.units.specs.Positions.{same_position, positions_from}
use Rattle.units.specs.Runs.{followed}
use Rattle.units.specs.Runs.{LeveledView, size_of, remains, successor, begins_sequence, sequence_at, sequence_from, sequences_of}
use Rattle.explicit.specs.Leveled.{IsLeveled}
use Rattle.explicit.specs.Leveled.{IsNested}
use Rattle.sequences.specs.Once.{times, HoldsOnce}
use Rattle.units.specs.Runs.{SequenceView}
use Rattle.sequences.proofs.Forward.{successor_later}
use Rattle.sequences.proofs.Joined.{successor_remains, successor_once, successor_cases}
use Rattle.sequences.proofs.Nearest.{any_from, any_none}

-- 1 if the two are equal
abbrev pub one_if : ℕ → ℕ → ℕ
one_if x p = cond (x == p) 1 0

pub times-cons : (x : ℕ) (xs : List ℕ) (p : ℕ) → times (x ∷ xs) p ≡ one_if x p + times xs p
times-cons x xs p = sum_by-cons (λ q. cond (q == p) 1 0) x xs

pub times-append : (xs ys : List ℕ) (p : ℕ) → times (xs ++ ys) p ≡ times xs p + times ys p
times-append xs ys p = sum_by-append (λ q. cond (q == p) 1 0) xs ys

pub one_if-same : (x p : ℕ) → x ≡ p → one_if x p ≡ 1
one_if-same x p e = cond-true (x == p) 1 0 (eq-eqb x p e)

pub one_if-other : (x p : ℕ) → (x ≡ p → ⊥) → one_if x p ≡ 0
one_if-other x p e = cond-false (x == p) 1 0 (ne_eqb x p e)

pub same_from : (o : Option ℕ) (p : ℕ) → same_position o (Some p) ≡ true → o ≡ Some p
same_from None p e = absurd (false≢true e)
same_from (Some x) p e = ap Some (eqb-true x p e)

same_to : (o : Option ℕ) (p : ℕ) → o ≡ Some p → same_position o (Some p) ≡ true
same_to None p e = absurd cc
same_to (Some x) p e = let s : x ≡ p = cc in eq-eqb x p s

if_some : (P : ℕ → Type 0) (o : Option ℕ) → ((y : ℕ) → o ≡ Some y → P y) → IfSome o P
if_some P None f = tt
if_some P (Some y) f = f y refl

pub remains_within : (t : LeveledView) (p : ℕ) → remains t p ≡ true → p < size_of t
remains_within t p e =
    elim (cases_lt p (size_of t)) [
      | inl l ↦ l
      | inr g ↦
          absurd (false≢true (sym (ap is_some (get_or_past t.levels p None g)) ∙ e))
    ]

times_followed_none : (next : ℕ → Option ℕ) (steps p : ℕ) → times (followed next steps None) p ≡ 0
times_followed_none next zero p = refl
times_followed_none next (suc steps) p = refl

times-before : (a n p : ℕ) → p < a → times (positions_from a n) p ≡ 0
times-before a zero p l = refl
times-before a (suc n) p l =
    omega (
      arith,
      times-cons a (positions_from (a + 1) n) p,
      one_if-other a p (λ e. omega arith),
      times-before (a + 1) n p (omega arith),
    )

pub times-positions : (a n p : ℕ) → a ≤ p → p < a + n → times (positions_from a n) p ≡ 1
times-positions a zero p g l = absurd (omega arith)
times-positions a (suc n) p g l =
    elim (cases_eq a p) [
      | inl same ↦ omega (
        arith,
        times-cons a (positions_from (a + 1) n) p,
        one_if-same a p same,
        times-before (a + 1) n p (omega arith),
      )
      | inr other ↦ omega (
        arith,
        times-cons a (positions_from (a + 1) n) p,
        one_if-other a p other,
        times-positions (a + 1) n p (omega arith) (omega arith),
      )
    ]

-- how often p is in the sequences that begin at one of these
abbrev occurs : LeveledView → ℕ → List ℕ → ℕ
occurs t p xs = times (flat_map (sequence_from t) (filter (begins_sequence t) xs)) p

occurs-begins : (t : LeveledView) (p x : ℕ) (xs : List ℕ) → begins_sequence t x ≡ true →
    occurs t p (x ∷ xs) ≡ times (sequence_from t x) p + occurs t p xs
occurs-begins t p x xs b = grind (arith, nat_tests, common_steps, cond-true, times-append)

occurs-other : (t : LeveledView) (p x : ℕ) (xs : List ℕ) → begins_sequence t x ≡ false →
    occurs t p (x ∷ xs) ≡ occurs t p xs
occurs-other t p x xs b =
    ap (λ (ys : List ℕ). times (flat_map (sequence_from t) ys) p)
    (cond-false (begins_sequence t x) (x ∷ filter (begins_sequence t) xs) (filter (begins_sequence t) xs) b)

module _ (t : LeveledView) (h : IsLeveled t) (n : IsNested t) where
  pub begins_remains : (p : ℕ) → begins_sequence t p ≡ true → remains t p ≡ true
  begins_remains p b = (and_parts _ _ b).0

  -- nothing leads to the beginning of a sequence
  begins_first : (p : ℕ) → begins_sequence t p ≡ true → (q : ℕ) → successor t q ≡ Some p → ⊥
  begins_first p b q e =
      let led : Bool = list_any (λ q. same_position (successor t q) (Some p)) (positions_from 0 (size_of t)) in
      let none : led ≡ false = not-true led (and_parts (remains t p) (not led) b).1 in
      let l : q < size_of t = remains_within t q (successor_remains t q p e) in
      false≢true (sym (any_none (λ q. same_position (successor t q) (Some p)) 0 (size_of t) none q (omega arith)
      (omega arith)) ∙ same_to (successor t q) p e)

  pub begins_once : (p q : ℕ) → successor t q ≡ Some p → begins_sequence t p ≡ false
  begins_once p q e = false_from_ne_true (begins_sequence t p) (λ b. begins_first p b q e)

  pub leads_to_remaining : (x : ℕ) → IfSome (successor t x) (λ y. remains t y ≡ true)
  leads_to_remaining x = grind (arith, if_some, successor_cases, successor_remains)

  -- following successors never comes to a removed position
  times_followed_removed : (p : ℕ) → remains t p ≡ false → (steps : ℕ) (from : Option ℕ) →
      IfSome from (λ x. remains t x ≡ true) →
      times (followed (successor t) steps from) p ≡ 0
  times_followed_removed p r zero from s = refl
  times_followed_removed p r (suc steps) None s = refl
  times_followed_removed p r (suc steps) (Some x) s =
      grind (arith, times-cons, one_if-other, false≢true, leads_to_remaining, times_followed_removed p r steps)

  -- it comes to a position that nothing leads to only if it begins there
  times_followed_past : (p : ℕ) → ((q : ℕ) → successor t q ≡ Some p → ⊥) → (steps : ℕ) (from : Option ℕ) →
      (from ≡ Some p → ⊥) →
      times (followed (successor t) steps from) p ≡ 0
  times_followed_past p f zero from s = refl
  times_followed_past p f (suc steps) None s = refl
  times_followed_past p f (suc steps) (Some x) s =
      omega (
        arith,
        times-cons x (followed (successor t) steps (successor t x)) p,
        one_if-other x p (λ e. s (ap Some e)),
        times_followed_past p f steps (successor t x) (f x),
      )

  times_followed_first : (p : ℕ) → ((q : ℕ) → successor t q ≡ Some p → ⊥) → (steps x : ℕ) → 0 < steps →
      times (followed (successor t) steps (Some x)) p ≡ one_if x p
  times_followed_first p f zero x l = absurd (omega arith)
  times_followed_first p f (suc steps) x l =
      omega (
        arith,
        times-cons x (followed (successor t) steps (successor t x)) p,
        times_followed_past p f steps (successor t x) (f x),
      )

  -- it comes to a position if it begins there, or as often as to the one that leads to it
  times_followed_step : (p q : ℕ) → successor t q ≡ Some p → (steps x : ℕ) (next : Option ℕ) → successor t x ≡ next →
      ((y : ℕ) → next ≡ Some y →
      times (followed (successor t) steps (Some y)) p ≡
      one_if y p + times (followed (successor t) steps (Some y)) q) →
      times (followed (successor t) steps next) p ≡ one_if x q + times (followed (successor t) steps next) q
  times_followed_step p q e steps x None s ih =
      omega (
        arith,
        times_followed_none (successor t) steps p,
        times_followed_none (successor t) steps q,
        one_if-other x q (λ same.
            let no : ◌≡◌ {A = Option ℕ} None (Some p) = sym s ∙ ap (successor t) same ∙ e in cc),
      )
  times_followed_step p q e steps x (Some y) s ih = grind (arith, one_if-same, one_if-other, successor_once)

  times_followed_led : (p q : ℕ) → successor t q ≡ Some p → (steps x : ℕ) → x < size_of t → size_of t ≤ x + steps →
      times (followed (successor t) steps (Some x)) p ≡ one_if x p + times (followed (successor t) steps (Some x)) q
  times_followed_led p q e zero x l g = absurd (omega arith)
  times_followed_led p q e (suc steps) x l g =
      let P : ℕ → Option ℕ → Type 0 = λ x o. IfSome o (λ y. (x < y) × (y < size_of t)) in
      let more = times_followed_step p q e steps x (successor t x) refl (λ y s.
      let later : (x < y) × (y < size_of t) = subst (P x) s (successor_later t h x) in
      times_followed_led p q e steps y later.1 (omega (arith, later.0))) in
      omega (
        arith,
        times-cons x (followed (successor t) steps (successor t x)) p,
        times-cons x (followed (successor t) steps (successor t x)) q,
        more,
      )

  times_removed : (p : ℕ) → remains t p ≡ false → (xs : List ℕ) → occurs t p xs ≡ 0
  times_removed p r [] = refl
  times_removed p r (x ∷ xs) =
      elim (cases_Bool (begins_sequence t x)) [
        | inl b ↦ omega (
          arith,
          occurs-begins t p x xs b,
          times_followed_removed p r (size_of t) (Some x) (begins_remains x b),
          times_removed p r xs,
        )
        | inr b ↦ occurs-other t p x xs b ∙ times_removed p r xs
      ]

  times_led : (p q : ℕ) → successor t q ≡ Some p → (xs : List ℕ) → occurs t p xs ≡ occurs t q xs
  times_led p q e [] = refl
  times_led p q e (x ∷ xs) =
      elim (cases_Bool (begins_sequence t x)) [
        | inl b ↦
            let l : x < size_of t = remains_within t x (begins_remains x b) in
            omega (
              arith,
              occurs-begins t p x xs b,
              occurs-begins t q x xs b,
              times_followed_led p q e (size_of t) x l (omega arith),
              one_if-other x p (λ same. begins_first x b q (e ∙ ap Some (sym same))),
              times_led p q e xs,
            )
        | inr b ↦ occurs-other t p x xs b ∙ times_led p q e xs ∙ sym (occurs-other t q x xs b)
      ]

  times_first : (p : ℕ) → begins_sequence t p ≡ true → (xs : List ℕ) → occurs t p xs ≡ times xs p
  times_first p f [] = refl
  times_first p f (x ∷ xs) =
      elim (cases_Bool (begins_sequence t x)) [
        | inl b ↦
            let l : x < size_of t = remains_within t x (begins_remains x b) in
            omega (
              arith,
              occurs-begins t p x xs b,
              times_followed_first p (begins_first p f) (size_of t) x (omega arith),
              times-cons x xs p,
              times_first p f xs,
            )
        | inr b ↦
            omega (
              arith,
              occurs-other t p x xs b,
              times-cons x xs p,
              one_if-other x p (λ same. false≢true (sym b ∙ ap (begins_sequence t) same ∙ f)),
              times_first p f xs,
            )
      ]

  times_once : (k p : ℕ) → p < k → remains t p ≡ true → occurs t p (positions_from 0 (size_of t)) ≡ 1
  times_once zero p l r = absurd (omega arith)
  times_once (suc k) p l r =
      let within : p < size_of t = remains_within t p r in
      elim (cases_Bool (list_any (λ q. same_position (successor t q) (Some p)) (positions_from 0 (size_of t)))) [
        | inl led ↦
            let found = any_from (λ q. same_position (successor t q) (Some p)) 0 (size_of t) led in
            let e : successor t found.0 ≡ Some p = same_from (successor t found.0) p found.1 in
            let P : Option ℕ → Type 0 = λ o. IfSome o (λ y. (found.0 < y) × (y < size_of t)) in
            let later : (found.0 < p) × (p < size_of t) = subst P e (successor_later t h found.0) in
            times_led p found.0 e (positions_from 0 (size_of t)) ∙
            times_once k found.0 (omega (arith, later.0)) (successor_remains t found.0 p e)
        | inr free ↦
            times_first p (and_from _ _ r (not_from_false _ free)) (positions_from 0 (size_of t)) ∙
            times-positions 0 (size_of t) p (omega arith) (omega arith)
      ]

pub flat_views : (t : LeveledView) (xs : List ℕ) →
    flat_map (λ (s : SequenceView). s.positions) (map (sequence_at t) xs) ≡ flat_map (sequence_from t) xs
flat_views t [] = refl
flat_views t (x ∷ xs) = ap (λ (ps : List ℕ). sequence_from t x ++ ps) (flat_views t xs)

-- the sequences contain each remaining position exactly once
pub sequences_hold_once : (t : LeveledView) → IsLeveled t → IsNested t → HoldsOnce t (sequences_of t)
sequences_hold_once t h n p l =
    ap (λ (ps : List ℕ). times ps p) (flat_views t (filter (begins_sequence t) (positions_from 0 (size_of t))))
    ∙ elim (cases_Bool (remains t p)) [
      | inl r ↦ times_once t h n (suc p) p (omega arith) r ∙ sym (cond-true (remains t p) 1 0 r)
      | inr f ↦ times_removed t h n p f (positions_from 0 (size_of t)) ∙ sym (cond-false (remains t p) 1 0 f)
    ]

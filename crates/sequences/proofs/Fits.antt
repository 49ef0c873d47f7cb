-- The sequences have no more positions together than the paragraph has.
use Rattle.std.specs.Prelude.{ℕ, zero, suc, ◌+◌, ◌<◌, ◌≤◌, ◌≡◌, List, [], ◌∷◌, ◌++◌, length, map, filter, sum_by, refl}
use Rattle.std.specs.List.{flat_map}
use Rattle.std.proofs.Common.{arith, ap, sym, ◌∙◌, subst, inl, inr}
use Rattle.std.proofs.lemmas.Bool.{cases_Bool, cond-true, cond-false}
use Rattle.std.proofs.lemmas.Bool.Decides.{nat_tests}
use Rattle.std.proofs.lemmas.List.{length-append}
use Rattle.std.proofs.lemmas.List.Sums.{sum_by-cons}
use Rattle.units.specs.Positions.{positions_from}
use Rattle.units.specs.Runs.{SequenceView, LeveledView, size_of, remains, successor, begins_sequence, sequence_from, sequence_at, sequences_of}
use Rattle.explicit.specs.Leveled.{IsLeveled, IsNested}
use Rattle.explicit.proofs.Matched.AtMostOne.{at_most_one}
use Rattle.sequences.specs.Once.{times, HoldsOnce}
use Rattle.sequences.proofs.Once.{one_if, times-cons, times-positions, sequences_hold_once}
use Rattle.sequences.proofs.Forward.{successor_later}
use Rattle.sequences.proofs.Links.{IsRising, followed_rises}

-- each is below the end
abbrev pub AreBelow : ℕ → List ℕ → Type 0
AreBelow end [] = Unit {0}
AreBelow end (p ∷ ps) = (p < end) × AreBelow end ps

AreBelow-append : (end : ℕ) (xs ys : List ℕ) → AreBelow end xs → AreBelow end ys → AreBelow end (xs ++ ys)
AreBelow-append end [] ys a b = b
AreBelow-append end (x ∷ xs) ys a b = (a.0, AreBelow-append end xs ys a.1 b)

rising_below : (low end : ℕ) (ps : List ℕ) → IsRising low end ps → AreBelow end ps
rising_below low end [] r = tt
rising_below low end (p ∷ ps) r = (r.1, rising_below (p + 1) end ps r.2)

sum_by-plus : (f g : ℕ → ℕ) (xs : List ℕ) → sum_by (λ x. f x + g x) xs ≡ sum_by f xs + sum_by g xs
sum_by-plus f g [] = refl
sum_by-plus f g (x ∷ xs) =
    omega (arith, sum_by-cons (λ x. f x + g x) x xs, sum_by-cons f x xs, sum_by-cons g x xs, sum_by-plus f g xs)

sum_by-same : (f g : ℕ → ℕ) → ((x : ℕ) → f x ≡ g x) → (xs : List ℕ) → sum_by f xs ≡ sum_by g xs
sum_by-same f g e [] = refl
sum_by-same f g e (x ∷ xs) = omega (arith, sum_by-cons f x xs, sum_by-cons g x xs, e x, sum_by-same f g e xs)

sum_by-zero : (xs : List ℕ) → sum_by (λ x. 0) xs ≡ 0
sum_by-zero [] = refl
sum_by-zero (x ∷ xs) = omega (arith, sum_by-cons (λ (y : ℕ). 0) x xs, sum_by-zero xs)

sum_by-at_most : (f : ℕ → ℕ) (a n : ℕ) → ((p : ℕ) → a ≤ p → p < a + n → f p ≤ 1) → sum_by f (positions_from a n) ≤ n
sum_by-at_most f a zero h = omega arith
sum_by-at_most f a (suc n) h =
    omega (
      arith,
      sum_by-cons f a (positions_from (a + 1) n),
      h a (omega arith) (omega arith),
      sum_by-at_most f (a + 1) n (λ p g l. h p (omega arith) (omega arith)),
    )

one_if-flip : (x p : ℕ) → one_if x p ≡ one_if p x
one_if-flip x p = grind (arith, nat_tests)

length-by_times : (end : ℕ) (xs : List ℕ) → AreBelow end xs → length xs ≡ sum_by (times xs) (positions_from 0 end)
length-by_times end [] b = sym (sum_by-zero (positions_from 0 end))
length-by_times end (x ∷ xs) b =
    let each : sum_by (times (x ∷ xs)) (positions_from 0 end) ≡
    sum_by (λ p. one_if p x + times xs p) (positions_from 0 end) =
    sum_by-same (times (x ∷ xs)) (λ p. one_if p x + times xs p) (λ p. times-cons x xs p ∙
    ap (λ k. k + times xs p) (one_if-flip x p)) (positions_from 0 end) in
    let once : sum_by (λ p. one_if p x) (positions_from 0 end) ≡ 1 =
    times-positions 0 end x (omega arith) (omega (arith, b.0)) in
    omega (
      arith,
      each,
      once,
      sum_by-plus (λ p. one_if p x) (times xs) (positions_from 0 end),
      length-by_times end xs b.1,
    )

pub flat_below : (t : LeveledView) → IsLeveled t → (a n : ℕ) → a + n ≤ size_of t →
    AreBelow (size_of t) (flat_map (λ (s : SequenceView).
    s.positions) (map (sequence_at t) (filter (begins_sequence t) (positions_from a n))))
flat_below t h a zero l = tt
flat_below t h a (suc n) l =
    let P : List ℕ → Type 0 =
    λ xs. AreBelow (size_of t) (flat_map (λ (s : SequenceView). s.positions) (map (sequence_at t) xs)) in
    let later : P (filter (begins_sequence t) (positions_from (a + 1) n)) = flat_below t h (a + 1) n (omega arith) in
    elim (cases_Bool (begins_sequence t a)) [
      | inl b ↦ subst P (sym
          (cond-true (begins_sequence t a) (a ∷ filter (begins_sequence t) (positions_from (a + 1) n))
          (filter (begins_sequence t) (positions_from (a + 1) n)) b))
          (AreBelow-append (size_of t) (sequence_from t a) _ (rising_below 0 (size_of t) (sequence_from t a)
          (followed_rises (successor t) (size_of t) (successor_later t h) a (omega arith))) later)
      | inr f ↦ subst P (sym
          (cond-false (begins_sequence t a) (a ∷ filter (begins_sequence t) (positions_from (a + 1) n))
          (filter (begins_sequence t) (positions_from (a + 1) n)) f)) later
    ]

pub length-flat : (all : List SequenceView) →
    length (flat_map (λ (s : SequenceView). s.positions) all) ≡ sum_by (λ (s : SequenceView). length s.positions) all
length-flat [] = refl
length-flat (s ∷ all) =
    omega (
      arith,
      length-append s.positions (flat_map (λ (s : SequenceView). s.positions) all),
      length-flat all,
      sum_by-cons (λ (s : SequenceView). length s.positions) s all,
    )

-- all sequences together have at most as many positions as the paragraph
pub sequences_fit : (t : LeveledView) → IsLeveled t → IsNested t →
    sum_by (λ (s : SequenceView). length s.positions) (sequences_of t) ≤ size_of t
sequences_fit t h n =
    let flat : List ℕ = flat_map (λ (s : SequenceView). s.positions) (sequences_of t) in
    let once : HoldsOnce t (sequences_of t) = sequences_hold_once t h n in
    let total : length flat ≡ sum_by (times flat) (positions_from 0 (size_of t)) =
    length-by_times (size_of t) flat (flat_below t h 0 (size_of t) (omega arith)) in
    let few : sum_by (times flat) (positions_from 0 (size_of t)) ≤ size_of t =
    sum_by-at_most (times flat) 0 (size_of t) (λ p g l. omega (
      arith,
      once p (omega arith),
      at_most_one (remains t p),
    )) in
    omega (arith, total, few, length-flat (sequences_of t))

-- The value beside a position in a list of positions with values.
use Rattle.std.specs.Prelude.{Option, Some, None, ℕ, suc, ◌==◌, ◌<◌, ◌≡◌, List, [], ◌∷◌, ◌++◌, length, slice_index, refl}
use Rattle.std.specs.List.{find, flat_map, zip}
use Rattle.std.specs.Option.{option_map, option_or}
use Rattle.std.proofs.Common.{arith, ap, sym, ◌∙◌, inl, inr, get_or}
use Rattle.std.proofs.lemmas.Bool.{cases_Bool, cond-true, cond-false, eqb-true}
use Rattle.std.proofs.lemmas.List.Folds.{find-append}
use Rattle.std.proofs.lemmas.Option.{none-some}
use Rattle.units.specs.Runs.{SequenceView}
use Rattle.sequences.specs.Once.{times}
use Rattle.sequences.proofs.Once.{one_if, one_if-same, times-append, times-cons}
use Rattle.paragraph.specs.Covering.{positions_in}

-- the value of the first option, or of the second if the first is none
first_none : {A B : Type 0} (f : A → B) (a b : Option A) → option_map f a ≡ None →
    option_map f (option_or a b) ≡ option_map f b
first_none f None b e = refl
first_none f (Some x) b e = absurd (none-some (f x) (sym e))

second_none : {A B : Type 0} (f : A → B) (a b : Option A) → option_map f b ≡ None →
    option_map f (option_or a b) ≡ option_map f a
second_none f None b e = e
second_none f (Some x) b e = refl

first_some : {A B : Type 0} (f : A → B) (a b : Option A) (y : B) → option_map f a ≡ Some y →
    option_map f (option_or a b) ≡ Some y
first_some f None b y e = absurd (none-some y e)
first_some f (Some x) b y e = e

-- a list with no value beside a position is skipped
pub found-append : {V : Type 0} (xs ys : List (ℕ × V)) (p : ℕ) →
    option_map (λ (x : ℕ × V). x.1) (find (λ (x : ℕ × V). x.0 == p) xs) ≡ None
    → option_map (λ (x : ℕ × V). x.1) (find (λ (x : ℕ × V). x.0 == p) (xs ++ ys)) ≡ option_map (λ (x : ℕ × V).
    x.1) (find (λ (x : ℕ × V). x.0 == p) ys)
found-append {V} xs ys p none = grind (arith, find-append, first_none)

pub found-append_none : {V : Type 0} (xs ys : List (ℕ × V)) (p : ℕ) →
    option_map (λ (x : ℕ × V). x.1) (find (λ (x : ℕ × V). x.0 == p) ys) ≡ None
    → option_map (λ (x : ℕ × V). x.1) (find (λ (x : ℕ × V). x.0 == p) (xs ++ ys)) ≡ option_map (λ (x : ℕ × V).
    x.1) (find (λ (x : ℕ × V). x.0 == p) xs)
found-append_none {V} xs ys p none = grind (arith, find-append, second_none)

-- more elements after the list don't change a value that is in it
pub found-append_some : {V : Type 0} (xs ys : List (ℕ × V)) (p : ℕ) (v : V) →
    option_map (λ (x : ℕ × V). x.1) (find (λ (x : ℕ × V). x.0 == p) xs) ≡ Some v
    → option_map (λ (x : ℕ × V). x.1) (find (λ (x : ℕ × V). x.0 == p) (xs ++ ys)) ≡ Some v
found-append_some {V} xs ys p v some = grind (arith, find-append, first_some)

-- a position that is not in the list has no value
pub zip_none : {V : Type 0} (ps : List ℕ) (vs : List V) (p : ℕ) → times ps p ≡ 0
    → option_map (λ (x : ℕ × V). x.1) (find (λ (x : ℕ × V). x.0 == p) (zip ps vs)) ≡ None
zip_none [] vs p e = refl
zip_none (x ∷ ps) [] p e = refl
zip_none {V} (x ∷ ps) (v ∷ vs) p e =
    elim (cases_Bool (x == p)) [
      | inl same ↦ absurd (omega (arith, e, times-cons x ps p, one_if-same x p (eqb-true x p same)))
      | inr other ↦
          ap (option_map (λ (y : ℕ × V). y.1))
          (cond-false (x == p) (Some (x, v)) (find (λ (y : ℕ × V). y.0 == p) (zip ps vs)) other)
          ∙ zip_none ps vs p (omega (arith, e, times-cons x ps p))
    ]

-- the value beside a position in the list is the value at the position's index
pub zip_some : {V : Type 0} (ps : List ℕ) (vs : List V) (p : ℕ) → length vs ≡ length ps → 0 < times ps p → (d : V)
    → (k : ℕ) × (k < length ps) × (slice_index ps k ≡ p) ×
    (option_map (λ (x : ℕ × V). x.1) (find (λ (x : ℕ × V). x.0 == p) (zip ps vs)) ≡ Some (get_or vs k d))
zip_some [] vs p n l d = absurd (omega arith)
zip_some (x ∷ ps) [] p n l d = absurd (omega arith)
zip_some {V} (x ∷ ps) (v ∷ vs) p n l d =
    elim (cases_Bool (x == p)) [
      | inl same ↦ (
        0,
        omega arith,
        eqb-true x p same,
        ap (option_map (λ (y : ℕ × V). y.1))
            (cond-true (x == p) (Some (x, v)) (find (λ (y : ℕ × V). y.0 == p) (zip ps vs)) same),
      )
      | inr other ↦
          (let zero : one_if x p ≡ 0 = cond-false (x == p) 1 0 other in
          let w = zip_some ps vs p (omega arith) (omega (arith, times-cons x ps p)) d in (
            suc w.0,
            omega (arith, w.1),
            w.2,
            ap (option_map (λ (y : ℕ × V). y.1))
                (cond-false (x == p) (Some (x, v)) (find (λ (y : ℕ × V). y.0 == p) (zip ps vs)) other) ∙ w.3,
          ))
    ]

-- a position that is in none of these sequences has no value, if each sequence gives values only to its positions
pub none_beside : {V : Type 0} (items : SequenceView → List (ℕ × V))
    → ((s : SequenceView) (p : ℕ) → times s.positions p ≡ 0 →
    option_map (λ (x : ℕ × V). x.1) (find (λ (x : ℕ × V). x.0 == p) (items s)) ≡ None)
    → (all : List SequenceView) (p : ℕ) → times (positions_in all) p ≡ 0
    → option_map (λ (x : ℕ × V). x.1) (find (λ (x : ℕ × V). x.0 == p) (flat_map items all)) ≡ None
none_beside items own [] p e = refl
none_beside items own (s ∷ all) p e =
    let t = times-append s.positions (positions_in all) p in
    found-append (items s) (flat_map items all) p (own s p (omega arith)) ∙ none_beside items own all p (omega arith)

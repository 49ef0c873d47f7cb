-- No position is in two sequences, and each remaining position is in one.
use Rattle.std.proofs.lemmas.Bool.Decides.{nat_tests}
use Rattle.std.proofs.lemmas.Grind.{common_steps}
use Rattle.std.specs.Prelude.{Some, ℕ, zero, suc, ◌<◌, ◌≤◌, ◌≡◌, List, [], ◌∷◌, Contains, slice_get, refl}
use Rattle.std.specs.List.{flat_map}
use Rattle.std.proofs.Common.{arith, ap, inl, inr}
use Rattle.std.proofs.lemmas.Bool.{cases_Bool, cases_lt, cond-true, cond-false}
use Rattle.units.specs.Runs.{SequenceView, LeveledView, size_of, remains, sequences_of}
use Rattle.explicit.specs.Leveled.{IsLeveled, IsNested}
use Rattle.sequences.specs.Once.{times}
use Rattle.sequences.proofs.Once.{one_if-same, one_if-other, times-cons, times-append, sequences_hold_once}
use Rattle.sequences.proofs.Fits.{AreBelow, flat_below}

-- all positions of these sequences
abbrev pub flat_of : List SequenceView → List ℕ
flat_of all = flat_map (λ (s : SequenceView). s.positions) all

pub times-contains : (ps : List ℕ) (p : ℕ) → Contains ps p → 1 ≤ times ps p
times-contains [] p (k, l, e) = absurd (omega (arith, l))
times-contains (q ∷ ps) p (zero, l, e) = omega (arith, times-cons q ps p, one_if-same q p e)
times-contains (q ∷ ps) p (suc k, l, e) = omega (arith, times-cons q ps p, times-contains ps p (k, omega (arith, l), e))

times-occurs : (all : List SequenceView) (k p : ℕ) (s : SequenceView) → slice_get all k ≡ Some s →
    times s.positions p ≤ times (flat_of all) p
times-occurs [] k p s e = absurd cc
times-occurs (x ∷ all) zero p s e = grind (arith, nat_tests, common_steps, times-append)
times-occurs (x ∷ all) (suc k) p s e = omega (arith, times-append x.positions (flat_of all) p, times-occurs all k p s e)

apart_in : (all : List SequenceView) (j k p : ℕ) (s other : SequenceView) → times (flat_of all) p ≤ 1 →
    slice_get all j ≡ Some s → slice_get all k ≡ Some other → j < k →
    Contains s.positions p → Contains other.positions p → ⊥
apart_in [] j k p s other few e f h c d = absurd cc
apart_in (x ∷ all) j zero p s other few e f h c d = omega arith
apart_in (x ∷ all) zero (suc k) p s other few e f h c d =
    let same : x ≡ s = cc in
    omega (
      arith,
      few,
      times-append x.positions (flat_of all) p,
      ap (λ (y : SequenceView). times y.positions p) same,
      times-contains s.positions p c,
      times-contains other.positions p d,
      times-occurs all k p other f,
    )
apart_in (x ∷ all) (suc j) (suc k) p s other few e f h c d =
    apart_in all j k p s other (omega (arith, few, times-append x.positions (flat_of all) p)) e f (omega arith) c d

times-below : (end p : ℕ) (ps : List ℕ) → AreBelow end ps → end ≤ p → times ps p ≡ 0
times-below end p [] b h = refl
times-below end p (q ∷ ps) b h = omega (
  arith,
  times-cons q ps p,
  one_if-other q p (λ e. omega (arith, b.0, e)),
  times-below end p ps b.1 h,
)

few_times : (t : LeveledView) → IsLeveled t → IsNested t → (p : ℕ) → times (flat_of (sequences_of t)) p ≤ 1
few_times t h n p =
    elim (cases_lt p (size_of t)) [
      | inl l ↦ elim (cases_Bool (remains t p)) [
        | inl r ↦ omega (arith, sequences_hold_once t h n p l, cond-true {A = ℕ} (remains t p) 1 0 r)
        | inr f ↦ omega (arith, sequences_hold_once t h n p l, cond-false {A = ℕ} (remains t p) 1 0 f)
      ]
      | inr past ↦ omega (
        arith,
        times-below (size_of t) p (flat_of (sequences_of t)) (flat_below t h 0 (size_of t) (omega arith)) past,
      )
    ]

pub sequences_apart : (t : LeveledView) (j k p : ℕ) (s other : SequenceView) → IsLeveled t → IsNested t →
    slice_get (sequences_of t) j ≡ Some s → slice_get (sequences_of t) k ≡ Some other →
    j < k → Contains s.positions p → Contains other.positions p → ⊥
sequences_apart t j k p s other h n e f l c d = apart_in (sequences_of t) j k p s other (few_times t h n p) e f l c d

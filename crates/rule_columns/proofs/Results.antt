-- The value for a position in the lists of the sequences of a paragraph. No two sequences share a position.
use Rattle.std.specs.Prelude.{Some, None, ℕ, zero, suc, ◌+◌, ◌<◌, ◌≤◌, ◌≡◌, ◌≢◌, List, [], ◌∷◌, ◌++◌, length, take, Contains, slice_index, slice_get, refl}
use Rattle.std.specs.List.{flat_map}
use Rattle.std.proofs.Common.{arith, ap, sym, ◌∙◌, subst, inl, inr}
use Rattle.std.proofs.lemmas.Bool.{cases_lt, cases_order}
use Rattle.std.proofs.lemmas.List.{append-nil}
use Rattle.std.proofs.lemmas.List.Concat.{flat_map-append}
use Rattle.units.specs.Layout.{value_beside}
use Rattle.units.specs.Runs.{SequenceView}
use Rattle.sequences.specs.Once.{times}
use Rattle.sequences.proofs.Once.{one_if-same, times-append, times-cons}
use Rattle.resolve.proofs.Gathered.{contains_index}
use Rattle.paragraph.specs.Covering.{positions_in, AreDisjoint}
use Rattle.paragraph.proofs.ComputedBeside.{found-append, found-append_none, none_beside, zip_some}
use Rattle.paragraph.proofs.Covering.{take_next, apart_from_earlier, times_some, within_extent}

-- a position in the list has an index
pub index_in : (ps : List ℕ) (p : ℕ) → 0 < times ps p → (k : ℕ) × (k < length ps) × (slice_index ps k ≡ p)
index_in ps p some = let z = zip_some ps ps p refl some 0 in (z.0, z.1, z.2)

-- a position occurs in one sequence at most as often as in all sequences
pub times_in : (all : List SequenceView) (k : ℕ) (s : SequenceView) → slice_get all k ≡ Some s → (p : ℕ) →
    times s.positions p ≤ times (positions_in all) p
times_in [] k s e p = absurd cc
times_in (x ∷ all) zero s e p =
    let same : x ≡ s = cc in
    omega (arith, times-append x.positions (positions_in all) p, ap (λ (y : SequenceView). times y.positions p) same)
times_in (x ∷ all) (suc k) s e p = omega (arith, times-append x.positions (positions_in all) p, times_in all k s e p)

-- a position at two indices occurs twice in the list
twice : (ps : List ℕ) (j k : ℕ) → j < k → k < length ps → slice_index ps j ≡ slice_index ps k →
    2 ≤ times ps (slice_index ps k)
twice [] j k l h e = absurd (omega arith)
twice (x ∷ xs) zero zero l h e = absurd (omega arith)
twice (x ∷ xs) zero (suc k) l h e =
    omega (
      arith,
      times-cons x xs (slice_index xs k),
      one_if-same x (slice_index xs k) e,
      times_some xs (slice_index xs k) (contains_index xs k (omega arith)),
    )
twice (x ∷ xs) (suc j) zero l h e = absurd (omega arith)
twice (x ∷ xs) (suc j) (suc k) l h e =
    omega (arith, times-cons x xs (slice_index xs k), twice xs j k (omega arith) (omega arith) e)

-- each position occurs once in the list
abbrev pub IsDistinct : List ℕ → Type 0
IsDistinct ps = (j k : ℕ) → j < length ps → k < length ps → j ≢ k → slice_index ps j ≢ slice_index ps k

distinct_from : (ps : List ℕ) → ((p : ℕ) → times ps p ≤ 1) → IsDistinct ps
distinct_from ps once j k hj hk ne =
    elim (cases_order j k) [
      | inl e ↦ absurd (ne e)
      | inr other ↦ elim other [
        | inl lt ↦ (λ e. let two = twice ps j k lt hk e in let one = once (slice_index ps k) in omega arith)
        | inr gt ↦ (λ e. let two = twice ps k j gt hj (sym e) in let one = once (slice_index ps j) in omega arith)
      ]
    ]

-- each position occurs once in a sequence of a paragraph
pub distinct_in : {extent : ℕ} {all : List SequenceView} (apart : AreDisjoint extent all) {k : ℕ} {s : SequenceView} →
    slice_get all k ≡ Some s → k < length all → IsDistinct s.positions
distinct_in {extent} {all} apart {k} {s} at inside =
    distinct_from s.positions
    (λ p. elim (cases_lt 0 (times s.positions p)) [
      | inl some ↦
          (let z = index_in s.positions p some in
          let within : p < extent =
          within_extent apart at inside p (subst (Contains s.positions) z.2 (contains_index s.positions z.0 z.1)) in
          omega (arith, apart.once p within, times_in all k s at p))
      | inr none ↦ omega arith
    ])

-- a sequence has no value for a position that it does not contain
abbrev pub SaysOwn : {V : Type 0} → (SequenceView → List (ℕ × V)) → Type 0
SaysOwn {V} items = (s : SequenceView) (p : ℕ) → times s.positions p ≡ 0 → value_beside (items s) p ≡ None

module _ {V : Type 0} (items : SequenceView → List (ℕ × V)) (own : SaysOwn items) where
  module _ {extent : ℕ} {all : List SequenceView} (apart : AreDisjoint extent all) {k : ℕ} {s : SequenceView}
      (at : slice_get all k ≡ Some s) (inside : k < length all) where
    joined : flat_map items (take (k + 1) all) ≡ flat_map items (take k all) ++ items s
    joined =
        ap (flat_map items) (take_next apart at inside) ∙ flat_map-append items (take k all) (s ∷ [])
        ∙ ap (λ (xs : List (ℕ × V)). flat_map items (take k all) ++ xs) (append-nil (items s))

    -- with one more sequence, the value for a position of that sequence is its own
    pub value_here : (p : ℕ) → p < extent → 0 < times s.positions p →
        value_beside (flat_map items (take (k + 1) all)) p ≡ value_beside (items s) p
    value_here p h some =
        ap (λ (xs : List (ℕ × V)). value_beside xs p) joined
        ∙ found-append (flat_map items (take k all)) (items s) p
        (none_beside items own (take k all) p (apart_from_earlier apart at inside p h some))

    -- for all other positions the value is the same as before
    pub value_elsewhere : (p : ℕ) → times s.positions p ≡ 0 →
        value_beside (flat_map items (take (k + 1) all)) p ≡ value_beside (flat_map items (take k all)) p
    value_elsewhere p none =
        ap (λ (xs : List (ℕ × V)). value_beside xs p) joined
        ∙ found-append_none (flat_map items (take k all)) (items s) p (own s p none)

  -- in the lists of all sequences, the value for a position is that of the sequence that contains it, if no other does
  pub located_in : (all : List SequenceView) (k : ℕ) (s : SequenceView) → slice_get all k ≡ Some s → (p : ℕ) →
      0 < times s.positions p → times (positions_in all) p ≤ 1 →
      value_beside (flat_map items all) p ≡ value_beside (items s) p
  located_in [] k s e p some once = absurd cc
  located_in (x ∷ all) zero s e p some once =
      let same : x ≡ s = cc in
      let t = times-append x.positions (positions_in all) p in
      let here = ap (λ (y : SequenceView). times y.positions p) same in
      found-append_none (items x) (flat_map items all) p (none_beside items own all p (omega (arith, t, here))) ∙
      ap (λ (y : SequenceView). value_beside (items y) p) same
  located_in (x ∷ all) (suc k) s e p some once =
      let t = times-append x.positions (positions_in all) p in
      let there = times_in all k s e p in
      found-append (items x) (flat_map items all) p (own x p (omega (arith, t, there))) ∙
      located_in all k s e p some (omega (arith, t))

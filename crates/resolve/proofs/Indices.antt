-- The index of a position in a sequence.
use Rattle.std.specs.Prelude.{Option, Some, None, ℕ, zero, suc, ◌==◌, ◌+◌, ◌<◌, ◌≤◌, ◌≡◌, ◌≢◌, List, [], ◌∷◌, length, Contains, slice_index, slice_get, refl}
use Rattle.std.proofs.Common.{arith, ap, sym, subst, ◌∙◌, inl, inr, set}
use Rattle.std.proofs.lemmas.Bool.{cases_lt, cases_order, cond-true, cond-false, eq-eqb, ne_eqb, eqb-true}
use Rattle.std.proofs.lemmas.List.{get_or_default}
use Rattle.std.proofs.lemmas.Option.{slice_get_within, slice_get-get_or, get_or_from_slice_get}
use Rattle.units.specs.Classes.{classes_at}
use Rattle.units.specs.declared.class.Class.{Class}
use Rattle.sequences.specs.Links.{ArePositions}
use Rattle.resolve.specs.Indices.{index_of}
use Rattle.resolve.specs.Rewritten.{KeepsOthers}
use Rattle.resolve.proofs.Gathered.{apart, classes_at-set, keeps-set}

first-index : (ps : List ℕ) (k : ℕ) → k < length ps → ((j : ℕ) → j < k → slice_index ps j ≢ slice_index ps k) →
    index_of ps (slice_index ps k) ≡ k
first-index [] k lt others = absurd (omega arith)
first-index (q ∷ ps) zero lt others = cond-true (q == q) 0 (index_of ps q + 1) (eq-eqb q q refl)
first-index (q ∷ ps) (suc k) lt others =
    let p : ℕ = slice_index ps k in
    cond-false (q == p) 0 (index_of ps p + 1) (ne_eqb q p (others 0 (omega arith)))
    ∙ ap (λ n. n + 1) (first-index ps k (omega arith) (λ j below. others (suc j) (omega arith)))
    ∙ omega arith

-- the index of the position at an index is that index
pub index_of-index : (ps : List ℕ) (n : ℕ) → ArePositions ps n → (k : ℕ) → k < length ps →
    index_of ps (slice_index ps k) ≡ k
index_of-index ps n are k lt = first-index ps k lt (λ j below. apart ps n j k are (omega arith) lt (let ne : j ≢ k =
    omega arith in ne))

-- the position at the index of a position is that position
pub index-index_of : (ps : List ℕ) (p : ℕ) → index_of ps p < length ps → slice_index ps (index_of ps p) ≡ p
index-index_of [] p lt = absurd (omega arith)
index-index_of (q ∷ ps) p lt = grind (arith, cond-true, eqb-true, cond-false, index-index_of ps p)

pub contains-index_of : (ps : List ℕ) (p : ℕ) → index_of ps p < length ps → Contains ps p
contains-index_of ps p lt = (index_of ps p, lt, get_or_default ps (index_of ps p) p 0 lt ∙ index-index_of ps p lt)

-- a position before another one has an index before that one's
pub index_before : (ps : List ℕ) (n : ℕ) → ArePositions ps n → (k p : ℕ) → k < length ps → index_of ps p < length ps →
    slice_index ps k < p → k < index_of ps p
index_before ps n are k p inside within lt =
    let at = index-index_of ps p within in
    elim (cases_lt k (index_of ps p)) [
      | inl before ↦ before
      | inr not_before ↦ elim (cases_order k (index_of ps p)) [
        | inl e ↦ absurd (omega (arith, ap (slice_index ps) e, at))
        | inr other ↦ elim other [
          | inl less ↦ less
          | inr more ↦ absurd (omega (arith, are.rising (index_of ps p) k more inside, at))
        ]
      ]
    ]

pub index_not_before : (ps : List ℕ) (n : ℕ) → ArePositions ps n → (k p : ℕ) → k < length ps →
    index_of ps p < length ps → p ≤ slice_index ps k → index_of ps p ≤ k
index_not_before ps n are k p inside within le =
    let at = index-index_of ps p within in
    elim (cases_lt k (index_of ps p)) [
      | inl before ↦ absurd (omega (arith, are.rising k (index_of ps p) before within, at))
      | inr not_before ↦ not_before
    ]

-- the index of the next position, or the end
abbrev pub index_or_end : List ℕ → Option ℕ → ℕ
index_or_end ps None = length ps
index_or_end ps (Some p) = index_of ps p

-- the next position, if there is one, is in the list
abbrev pub IsNext : List ℕ → Option ℕ → Type 0
IsNext ps None = ℕ
IsNext ps (Some p) = index_of ps p < length ps

-- the position at an index, as the next one
pub next_index : (ps : List ℕ) (n k : ℕ) → ArePositions ps n → k ≤ length ps → (next : Option ℕ) →
    next ≡ slice_get ps k → (index_or_end ps next ≡ k) × IsNext ps next
next_index ps n k are le None e =
    let end : length ps ≤ k = elim (cases_lt k (length ps)) [
      | inl within ↦ (let some : slice_get ps k ≡ Some (slice_index ps k) = slice_get-get_or ps k 0 within in
          absurd (cc))
      | inr past ↦ past
    ] in
    (omega arith, 0)
next_index ps n k are le (Some p) e =
    let within : k < length ps = slice_get_within ps k p (sym e) in
    let at : slice_index ps k ≡ p = get_or_from_slice_get ps k p 0 (sym e) in
    let here : index_of ps p ≡ k = ap (index_of ps) (sym at) ∙ index_of-index ps n are k within in
    (here, omega arith)

-- the index of the next position, if there is one, is within the list
pub next_within : (ps : List ℕ) (next : Option ℕ) (p : ℕ) → IsNext ps next → next ≡ Some p → index_of ps p < length ps
next_within ps None p h e = absurd (cc)
next_within ps (Some q) p h e = grind arith

-- the position after a position, as the next one
pub next_after : (ps : List ℕ) (n p : ℕ) → ArePositions ps n → index_of ps p < length ps → (next : Option ℕ) →
    ((k : ℕ) → k < length ps → slice_index ps k ≡ p → next ≡ slice_get ps (k + 1)) →
    (index_or_end ps next ≡ index_of ps p + 1) × IsNext ps next
next_after ps n p are within next is =
    next_index ps n (index_of ps p + 1) are (omega arith) next (is (index_of ps p) within (index-index_of ps p within))

-- a write at a position of the sequence
pub classes_at-set_of : (cs : List Class) (ps : List ℕ) (p : ℕ) (c : Class) → ArePositions ps (length cs) →
    index_of ps p < length ps →
    classes_at (set cs p c) ps ≡ set (classes_at cs ps) (index_of ps p) c
classes_at-set_of cs ps p c are within =
    ap (λ (q : ℕ). classes_at (set cs q c) ps) (sym (index-index_of ps p within)) ∙
    classes_at-set cs ps (index_of ps p) c are within

pub keeps-set_of : (ps : List ℕ) (old now : List Class) (p : ℕ) (c : Class) → KeepsOthers ps old now →
    index_of ps p < length ps → KeepsOthers ps old (set now p c)
keeps-set_of ps old now p c unchanged within =
    let P : ℕ → Type 0 = λ q. KeepsOthers ps old (set now q c) in
    subst P (index-index_of ps p within) (keeps-set ps old now (index_of ps p) c unchanged within)

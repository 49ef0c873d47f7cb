-- The positions of the run at places of one level.
use Rattle.std.proofs.Common.{◌≡◌, ℕ, ◌+◌, ◌-◌, ◌<◌, ◌≤◌, ◌%◌, ◌≢◌, ◌⊎◌, true, false, Option, Some, None, List, refl, sym, ap, ◌∙◌, inl, inr, arith, min, max}
use Rattle.std.specs.Prelude.{IsSome, is_some, slice_index, slice_index_or}
use Rattle.std.proofs.lemmas.Bool.{cases_lt}
use Rattle.units.specs.Reordering.{IsLineOrder}
use Rattle.units.proofs.Positions.{first_from_some, first_from_none}
use Rattle.lines.specs.LinePositions.{HasLevel, is_remaining}
use Rattle.visual.specs.EffectiveLevelRanges.{effective_level, next_remaining}
use Rattle.visual.specs.Spans.{AllRemoved, IsSpan}
use Rattle.visual.proofs.EffectiveLevels.{effective-own, effective-end, effective-through, effective-inner}
use Rattle.visual.proofs.InOrder.{IsSameLevel, remaining_at, between_same, beside_same, same-rising, same-falling}

-- the least and the greatest position at places of one level
pub record AreEnds (order : List ℕ) (from to low high : ℕ) : Type 0 where
  pub lower : (i : ℕ) × (from ≤ i) × (i < to) × (slice_index order i ≡ low)
  pub higher : (i : ℕ) × (from ≤ i) × (i < to) × (slice_index order i ≡ high)
  pub all : (i : ℕ) → from ≤ i → i < to → (low ≤ slice_index order i) × (slice_index order i ≤ high)

parity : (v : ℕ) → (v % 2 ≡ 0) ⊎ (v % 2 ≡ 1)
parity v = elim (cases_lt (v % 2) 1) [ inl l ↦ inl (omega arith) | inr l ↦ inr (omega arith) ]

ends_rising : (levels : List (Option ℕ)) (start end : ℕ) (order : List ℕ) (from to v i j : ℕ) →
    IsLineOrder levels start end order → IsSameLevel levels order from to v → v % 2 ≡ 0 → from ≤ i → i ≤ j → j < to →
    slice_index order i ≤ slice_index order j
ends_rising levels start end order from to v i j o s even ai le bj =
    elim (cases_lt i j) [
      | inl l ↦ let t = same-rising levels start end order from to v i j o s even ai l bj in omega arith
      | inr l ↦ let e : i ≡ j = omega arith in let t : slice_index order i ≡ slice_index order j =
          ap (slice_index order) e in omega arith
    ]

ends_falling : (levels : List (Option ℕ)) (start end : ℕ) (order : List ℕ) (from to v i j : ℕ) →
    IsLineOrder levels start end order → IsSameLevel levels order from to v → v % 2 ≡ 1 → from ≤ i → i ≤ j → j < to →
    slice_index order j ≤ slice_index order i
ends_falling levels start end order from to v i j o s odd ai le bj =
    elim (cases_lt i j) [
      | inl l ↦ let t = same-falling levels start end order from to v i j o s odd ai l bj in omega arith
      | inr l ↦ let e : i ≡ j = omega arith in let t : slice_index order i ≡ slice_index order j =
          ap (slice_index order) e in omega arith
    ]

-- they are at the first and at the last place
pub ends_of : (levels : List (Option ℕ)) (start end : ℕ) (order : List ℕ) (from to v low high : ℕ) →
    IsLineOrder levels start end order → IsSameLevel levels order from to v →
    low ≡ min (slice_index order from) (slice_index order (to - 1)) →
    high ≡ max (slice_index order from) (slice_index order (to - 1)) → AreEnds order from to low high
ends_of levels start end order from to v low high o s l h =
    elim (parity v) [
      | inl even ↦
          let up : slice_index order from ≤ slice_index order (to - 1) =
          ends_rising levels start end order from to v from (to - 1) o s even (omega arith) (omega (arith, s.some))
          (omega (arith, s.some)) in
          record {
            lower = (from, omega arith, s.some, omega (arith, l, up));
            higher = (to - 1, omega (arith, s.some), omega (arith, s.some), omega (arith, h, up));
            all = λ i a b.
                let p = ends_rising levels start end order from to v from i o s even (omega arith) a b in
                let q = ends_rising levels start end order from to v i (to - 1) o s even a (omega arith) (omega (
                  arith,
                  s.some,
                )) in
                (omega (arith, l, up, p), omega (arith, h, up, q));
          }
      | inr odd ↦
          let down : slice_index order (to - 1) ≤ slice_index order from =
          ends_falling levels start end order from to v from (to - 1) o s odd (omega arith) (omega (arith, s.some))
          (omega (arith, s.some)) in
          record {
            lower = (to - 1, omega (arith, s.some), omega (arith, s.some), omega (arith, l, down));
            higher = (from, omega arith, s.some, omega (arith, h, down));
            all = λ i a b.
                let p = ends_falling levels start end order from to v from i o s odd (omega arith) a b in
                let q = ends_falling levels start end order from to v i (to - 1) o s odd a (omega arith) (omega (
                  arith,
                  s.some,
                )) in
                (omega (arith, l, down, q), omega (arith, h, down, p));
          }
    ]

-- the remaining positions between the ends are at these places
pub at_place : (levels : List (Option ℕ)) (start end : ℕ) (order : List ℕ) (from to v low high d u : ℕ) →
    IsLineOrder levels start end order → IsSameLevel levels order from to v → AreEnds order from to low high → low ≤ d →
    d ≤ high → HasLevel levels d u → (k : ℕ) × (from ≤ k) × (k < to) × (slice_index order k ≡ d)
at_place levels start end order from to v low high d u o s e a b h =
    let l = e.lower in
    let g = e.higher in
    elim (cases_lt low d) [
      | inl ld ↦ elim (cases_lt d high) [
        | inl dh ↦ between_same levels start end order from to v l.0 g.0 d u o s l.1 l.2 g.1 g.2 (omega (arith, l.3))
            (omega (arith, g.3)) h
        | inr dh ↦ let q : high ≡ d = omega arith in (g.0, g.1, g.2, g.3 ∙ q)
      ]
      | inr ld ↦ let q : low ≡ d = omega arith in (l.0, l.1, l.2, l.3 ∙ q)
    ]

pub some_level : (o : Option ℕ) → is_some o ≡ true → (v : ℕ) × (o ≡ Some v)
some_level None h = cc
some_level (Some v) h = (v, refl)

not_some : (o : Option ℕ) → is_some o ≡ false → o ≡ None
not_some None h = refl
not_some (Some v) h = cc

-- no position remains from this position on
pub removed_after : (levels : List (Option ℕ)) (end p : ℕ) → next_remaining levels end p ≡ None →
    AllRemoved levels p end
removed_after levels end p e d a b =
    not_some (slice_index_or levels d None) (first_from_none (is_remaining levels) p (end - p) e d a (omega arith))

-- the next remaining position
pub record IsNext (levels : List (Option ℕ)) (end p q : ℕ) : Type 0 where
  pub from : p ≤ q
  pub within : q < end
  pub level : ℕ
  pub has : HasLevel levels q level
  pub before : AllRemoved levels p q

pub next_is : (levels : List (Option ℕ)) (end p q : ℕ) → next_remaining levels end p ≡ Some q → IsNext levels end p q
next_is levels end p q e =
    let f = first_from_some (is_remaining levels) p (end - p) q e in
    let l = some_level (slice_index_or levels q None) f.passes in
    record {
      from = f.from;
      within = omega (arith, f.within, f.from);
      level = l.0;
      has = l.1;
      before = λ d a b. not_some (slice_index_or levels d None) (f.fails_before d a b);
    }

-- the positions of the run have its level, and the adjacent positions on both sides have another
pub record IsOwnLevel (levels : List (Option ℕ)) (para start end from to v : ℕ) : Type 0 where
  pub some : from < to
  pub first : start ≤ from
  pub within : to ≤ end
  pub level : (p : ℕ) → from ≤ p → p < to → effective_level levels para end p ≡ v
  pub begins : (from ≡ start) ⊎ (effective_level levels para end (from - 1) ≢ v)
  pub ends : (to ≡ end) ⊎ (effective_level levels para end to ≢ v)

-- the properties of the places of a run and of its span
pub record IsSearched (levels : List (Option ℕ)) (para start end : ℕ) (order : List ℕ)
    (place following v low high from to : ℕ) : Type 0 where
  pub in_order : IsLineOrder levels start end order
  pub same : IsSameLevel levels order place following v
  pub ends : AreEnds order place following low high
  pub span : IsSpan levels para start end low high v from to

run_high : (levels : List (Option ℕ)) (para start end : ℕ) (order : List ℕ) (place following v low high from to : ℕ) →
    IsSearched levels para start end order place following v low high from to → (high < end) × HasLevel levels high v
run_high levels para start end order place following v low high from to f =
    let g = f.ends.higher in
    let r = remaining_at levels start end order g.0 f.in_order (omega (arith, f.same.inside, g.2)) in
    (omega (arith, r.high, g.3), ap (λ n. slice_index_or levels n None) (sym g.3) ∙ f.same.same g.0 g.1 g.2)

run_low : (levels : List (Option ℕ)) (para start end : ℕ) (order : List ℕ) (place following v low high from to : ℕ) →
    IsSearched levels para start end order place following v low high from to → (start ≤ low) × (low ≤ high) ×
    HasLevel levels low v
run_low levels para start end order place following v low high from to f =
    let g = f.ends.lower in
    let r = remaining_at levels start end order g.0 f.in_order (omega (arith, f.same.inside, g.2)) in
    let a = f.ends.all g.0 g.1 g.2 in (
      omega (arith, r.low, g.3),
      omega (arith, a.0, a.1),
      ap (λ n. slice_index_or levels n None) (sym g.3) ∙
          f.same.same g.0 g.1 g.2,
    )

-- the remaining positions of the span up to its greatest one are at its places
run_all : (levels : List (Option ℕ)) (para start end : ℕ) (order : List ℕ) (place following v low high from to d u : ℕ)
    → IsSearched levels para start end order place following v low high from to → from ≤ d → d ≤ high →
    HasLevel levels d u → (k : ℕ) × (place ≤ k) × (k < following) × (slice_index order k ≡ d)
run_all levels para start end order place following v low high from to d u f a b h =
    elim (cases_lt d low) [
      | inl l ↦ absurd (let z : None ≡ Some u = sym (f.span.before d a l) ∙ h in cc)
      | inr l ↦ at_place levels start end order place following v low high d u f.in_order f.same f.ends l b h
    ]

pub level_of_place : (levels : List (Option ℕ)) (para start end : ℕ) (order : List ℕ)
    (place following v low high from to d u : ℕ) →
    IsSearched levels para start end order place following v low high from to → from ≤ d → d ≤ high →
    HasLevel levels d u → u ≡ v
level_of_place levels para start end order place following v low high from to d u f a b h =
    let k = run_all levels para start end order place following v low high from to d u f a b h in
    let t : HasLevel levels d v = ap (λ n. slice_index_or levels n None) (sym k.3) ∙ f.same.same k.0 k.1 k.2 in
    let z : Some u ≡ Some v = sym h ∙ t in cc

-- the span ends after its greatest remaining position, or at the end of the line
pub record EndsSo (levels : List (Option ℕ)) (para end high v to : ℕ) : Type 0 where
  pub either : (to ≡ high + 1) ⊎ ((to ≡ end) × (v ≡ para) × AllRemoved levels (high + 1) end)

ends_so : (levels : List (Option ℕ)) (para start end low high v from to : ℕ) (o : Option ℕ) →
    next_remaining levels end (high + 1) ≡ o → IsSpan levels para start end low high v from to →
    EndsSo levels para end high v to
ends_so levels para start end low high v from to (Some r) e s =
    record { either = inl (s.alone (λ n. absurd (let z : None ≡ Some r = sym n ∙ e in cc))) }
ends_so levels para start end low high v from to None e s =
    elim (cases_lt v para) [
      | inl l ↦ record { either = inl (s.alone (λ n. omega arith)) }
      | inr l ↦ elim (cases_lt para v) [
        | inl m ↦ record { either = inl (s.alone (λ n. omega arith)) }
        | inr m ↦ record { either = inr (s.joined e (omega arith), omega arith, removed_after levels end (high + 1) e) }
      ]
    ]

run_level : (levels : List (Option ℕ)) (para start end : ℕ) (order : List ℕ) (place following v low high from to p : ℕ)
    → IsSearched levels para start end order place following v low high from to → EndsSo levels para end high v to →
    from ≤ p → p < to → effective_level levels para end p ≡ v
run_level levels para start end order place following v low high from to p f w a b =
    let h = run_high levels para start end order place following v low high from to f in
    elim (cases_lt high p) [
      | inl l ↦ elim w.either [
        | inl e ↦ absurd (omega arith)
        | inr e ↦
            effective-through levels para end p end (omega (arith, e.0)) (omega arith) (λ d c g. e.2 d (omega arith) g)
            ∙ effective-end levels para end ∙ sym e.1
      ]
      | inr l ↦ effective-inner levels para end v p high l h.0 h.1 (λ d u c g k.
          level_of_place levels para start end order place following v low high from to d u f (omega arith) g k)
    ]

run_begins : (levels : List (Option ℕ)) (para start end : ℕ) (order : List ℕ) (place following v low high from to : ℕ) →
    IsSearched levels para start end order place following v low high from to →
    (from ≡ start) ⊎ (effective_level levels para end (from - 1) ≢ v)
run_begins levels para start end order place following v low high from to f =
    let l = run_low levels para start end order place following v low high from to f in
    let h = run_high levels para start end order place following v low high from to f in
    elim f.span.begins [
      | inl e ↦ inl e
      | inr e ↦ inr (λ same.
          let q = from - 1 in
          let u = some_level (slice_index_or levels q None) e.1 in
          let own : effective_level levels para end q ≡ u.0 =
          effective-own levels para end q u.0 (omega (arith, f.span.reaches, l.1, h.0, e.0)) u.1 in
          let t : u.0 ≡ v = sym own ∙ same in
          let has : HasLevel levels q v = u.1 ∙ ap (λ n. Some n) t in
          let g = f.ends.lower in
          let k = beside_same levels start end order place following v g.0 q f.in_order f.same g.1 g.2 (omega (
            arith,
            e.0,
          )) (omega (arith, f.span.reaches, l.1, h.0, e.0)) has
          (λ d w c b z. omega (arith, c, b, g.3, f.span.reaches))
          (λ d w c b z. let n : None ≡ Some w = sym (f.span.before d (omega (arith, c)) (omega (arith, b, g.3))) ∙ z in
          cc) in
          let a = f.ends.all k.0 k.1 k.2 in
          omega (arith, a.0, k.3, f.span.reaches, e.0))
    ]

run_ends_by : (levels : List (Option ℕ)) (para start end : ℕ) (order : List ℕ) (place following v low high from to : ℕ)
    (o : Option ℕ) → next_remaining levels end (high + 1) ≡ o →
    IsSearched levels para start end order place following v low high from to →
    (to ≡ end) ⊎ (effective_level levels para end to ≢ v)
run_ends_by levels para start end order place following v low high from to (Some r) e f =
    let to_is : to ≡ high + 1 = f.span.alone (λ n. absurd (let z : None ≡ Some r = sym n ∙ e in cc)) in
    let n = next_is levels end (high + 1) r e in
    let low_is = run_low levels para start end order place following v low high from to f in
    inr (λ same.
    let own : effective_level levels para end to ≡ n.level =
    ap (effective_level levels para end) to_is ∙
    effective-through levels para end (high + 1) r n.from (omega (arith, n.within)) n.before ∙
    effective-own levels para end r n.level n.within n.has in
    let t : n.level ≡ v = sym own ∙ same in
    let has : HasLevel levels r v = n.has ∙ ap (λ m. Some m) t in
    let g = f.ends.higher in
    let k = beside_same levels start end order place following v g.0 r f.in_order f.same g.1 g.2 (omega (
      arith,
      n.from,
      low_is.0,
      low_is.1,
    )) n.within has
    (λ d w c b z. let m : None ≡ Some w = sym (n.before d (omega (arith, c, g.3)) b) ∙ z in cc)
    (λ d w c b z. omega (arith, c, b, g.3, n.from)) in
    let a = f.ends.all k.0 k.1 k.2 in
    omega (arith, a.1, k.3, n.from))
run_ends_by levels para start end order place following v low high from to None e f =
    elim (ends_so levels para start end low high v from to None e f.span).either [
      | inl to_is ↦
          let h = run_high levels para start end order place following v low high from to f in
          elim (cases_lt to end) [
            | inl l ↦ inr (λ same.
                let gone = removed_after levels end (high + 1) e in
                let own : effective_level levels para end to ≡ para =
                ap (effective_level levels para end) to_is ∙
                effective-through levels para end (high + 1) end (omega (arith, h.0)) (omega arith) gone ∙
                effective-end levels para end in
                let t : v ≡ para = sym same ∙ own in
                let last : to ≡ end = f.span.joined e t in
                omega arith)
            | inr l ↦ inl (omega (arith, h.0))
          ]
      | inr w ↦ inl w.0
    ]

-- the span is a longest one at its level
pub computed_own : (levels : List (Option ℕ)) (para start end : ℕ) (order : List ℕ)
    (place following v low high from to : ℕ) →
    IsSearched levels para start end order place following v low high from to →
    IsOwnLevel levels para start end from to v
computed_own levels para start end order place following v low high from to f =
    let l = run_low levels para start end order place following v low high from to f in
    let h = run_high levels para start end order place following v low high from to f in
    let w = ends_so levels para start end low high v from to (next_remaining levels end (high + 1)) refl f.span in
    record {
      some = elim w.either [
        | inl e ↦ omega (arith, f.span.reaches, l.1)
        | inr e ↦
            omega (arith, f.span.reaches, l.1, h.0, e.0)
      ];
      first = f.span.first;
      within = elim w.either [ inl e ↦ omega (arith, h.0) | inr e ↦ omega (arith, e.0) ];
      level = λ p a b. run_level levels para start end order place following v low high from to p f w a b;
      begins = run_begins levels para start end order place following v low high from to f;
      ends = run_ends_by levels para start end order place following v low high from to
          (next_remaining levels end (high + 1)) refl f;
    }

-- the remaining positions of the span are at its places
pub run_place : (levels : List (Option ℕ)) (para start end : ℕ) (order : List ℕ)
    (place following v low high from to p : ℕ) →
    IsSearched levels para start end order place following v low high from to → from ≤ p → p < to →
    IsSome (slice_index_or levels p None) → (k : ℕ) × (place ≤ k) × (k < following) × (slice_index order k ≡ p)
run_place levels para start end order place following v low high from to p f a b s =
    let u = some_level (slice_index_or levels p None) s in
    let w = ends_so levels para start end low high v from to (next_remaining levels end (high + 1)) refl f.span in
    elim (cases_lt high p) [
      | inl l ↦ elim w.either [
        | inl e ↦ absurd (omega arith)
        | inr e ↦ absurd (let z : None ≡ Some u.0 = sym (e.2 p (omega arith) (omega (arith, e.0))) ∙ u.1 in cc)
      ]
      | inr l ↦ run_all levels para start end order place following v low high from to p u.0 f a l u.1
    ]

-- the places have positions of the span
pub run_covers : (levels : List (Option ℕ)) (para start end : ℕ) (order : List ℕ)
    (place following v low high from to i : ℕ) →
    IsSearched levels para start end order place following v low high from to → place ≤ i → i < following →
    (from ≤ slice_index order i) × (slice_index order i < to)
run_covers levels para start end order place following v low high from to i f a b =
    let h = run_high levels para start end order place following v low high from to f in
    let w = ends_so levels para start end low high v from to (next_remaining levels end (high + 1)) refl f.span in
    let e = f.ends.all i a b in (
      omega (arith, e.0, f.span.reaches),
      elim w.either [
        | inl t ↦ omega (arith, e.1)
        | inr t ↦
            omega (arith, e.1, h.0, t.0)
      ],
    )

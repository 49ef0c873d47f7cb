-- Adjacent places of one level in the order of a line.
use Rattle.std.proofs.Common.{◌≡◌, ℕ, ◌+◌, ◌-◌, ◌<◌, ◌≤◌, ◌%◌, ◌≢◌, ◌⊎◌, Option, Some, None, List, length, refl, sym, ap, ◌∙◌, inl, inr, arith}
use Rattle.std.proofs.Common.{subst}
use Rattle.std.specs.Prelude.{IsSome, slice_index, slice_index_or}
use Rattle.std.specs.List.{Contains}
use Rattle.std.proofs.lemmas.Bool.{cases_lt}
use Rattle.std.proofs.lemmas.List.{get_or_default}
use Rattle.units.specs.Reordering.{IsLineOrder}
use Rattle.lines.specs.LinePositions.{HasLevel}
use Rattle.lines.proofs.Turns.{least}
use Rattle.visual.proofs.SameLevel.{Left, Outside, NoneBetween, left_from_stand, none_outside, none_between_rising, none_between_falling, least_of_one, level_same}

-- the place of a remaining position
pub record PlaceOf (order : List ℕ) (p : ℕ) : Type 0 where
  pub at : ℕ
  pub inside : at < length order
  pub is : slice_index order at ≡ p

pub some_from_level : (o : Option ℕ) (v : ℕ) → o ≡ Some v → IsSome o
some_from_level None v e = cc
some_from_level (Some w) v e = refl

level_from_some : (o : Option ℕ) → IsSome o → (v : ℕ) × (o ≡ Some v)
level_from_some None h = cc
level_from_some (Some w) h = (w, refl)

pub place_of : (levels : List (Option ℕ)) (start end : ℕ) (order : List ℕ) (p v : ℕ) →
    IsLineOrder levels start end order → start ≤ p → p < end → HasLevel levels p v → PlaceOf order p
place_of levels start end order p v o low high h =
    let c = (o.remaining p).1 (low, high, some_from_level (slice_index_or levels p None) v h) in
    record { at = c.0; inside = c.1; is = get_or_default order c.0 0 p c.1 ∙ c.2 }

-- the position at a place remains
pub record IsRemaining (levels : List (Option ℕ)) (start end p : ℕ) : Type 0 where
  pub low : start ≤ p
  pub high : p < end
  pub level : ℕ
  pub has : HasLevel levels p level

pub remaining_at : (levels : List (Option ℕ)) (start end : ℕ) (order : List ℕ) (i : ℕ) →
    IsLineOrder levels start end order → i < length order → IsRemaining levels start end (slice_index order i)
remaining_at levels start end order i o lt =
    let p = slice_index order i in
    let c : Contains order p = (i, lt, get_or_default order i p 0 lt) in
    let s = (o.remaining p).0 c in
    let l = level_from_some (slice_index_or levels p None) s.2 in
    record { low = s.0; high = s.1; level = l.0; has = l.1 }

pub left_at : (levels : List (Option ℕ)) (start end : ℕ) (order : List ℕ) (i j : ℕ) →
    IsLineOrder levels start end order → i < j → j < length order →
    Left levels (slice_index order i) (slice_index order j)
left_at levels start end order i j o lt within =
    left_from_stand levels (slice_index order i) (slice_index order j) (o.pairs i j 0 lt within)

-- the places from `from` up to `to` have this level, and the adjacent places on both sides have another
pub record IsSameLevel (levels : List (Option ℕ)) (order : List ℕ) (from to v : ℕ) : Type 0 where
  pub some : from < to
  pub inside : to ≤ length order
  pub same : (i : ℕ) → from ≤ i → i < to → HasLevel levels (slice_index order i) v
  pub before : (i : ℕ) → i + 1 ≡ from → HasLevel levels (slice_index order i) v → ⊥
  pub after : to < length order → HasLevel levels (slice_index order to) v → ⊥

-- a position at another place is before both or after both of two positions at these places
outside_at : (levels : List (Option ℕ)) (start end : ℕ) (order : List ℕ) (from to v i j k : ℕ) →
    IsLineOrder levels start end order → IsSameLevel levels order from to v → from ≤ i → i < to → from ≤ j → j < to →
    k < length order → (k < from) ⊎ (to ≤ k) →
    Outside levels (slice_index order i) (slice_index order j) (slice_index order k)
outside_at levels start end order from to v i j k o s ai bi aj bj lt out =
    elim out [
      | inl l ↦ inl (
        left_at levels start end order k i o (omega arith) (omega (arith, s.inside)),
        left_at levels start end order k j o (omega arith) (omega (arith, s.inside)),
      )
      | inr l ↦ inr (
        left_at levels start end order i k o (omega arith) lt,
        left_at levels start end order j k o (omega arith) lt,
      )
    ]

place_outside : (levels : List (Option ℕ)) (order : List ℕ) (from to v k d u : ℕ) → IsSameLevel levels order from to v →
    slice_index order k ≡ d → HasLevel levels d u → u ≢ v → (k < from) ⊎ (to ≤ k)
place_outside levels order from to v k d u s is h ne =
    elim (cases_lt k from) [
      | inl l ↦ inl l
      | inr l ↦ elim (cases_lt k to) [
        | inl m ↦ absurd (ne (sym (level_same levels (slice_index order k) d v u is (s.same k l m) h)))
        | inr m ↦ inr m
      ]
    ]

-- the remaining positions between two of them have their level too
pub between_same : (levels : List (Option ℕ)) (start end : ℕ) (order : List ℕ) (from to v i j d u : ℕ) →
    IsLineOrder levels start end order → IsSameLevel levels order from to v → from ≤ i → i < to → from ≤ j → j < to →
    slice_index order i < d → d < slice_index order j → HasLevel levels d u → (k : ℕ) × (from ≤ k) × (k < to) ×
    (slice_index order k ≡ d)
between_same levels start end order from to v i j d u o s ai bi aj bj xd dy h =
    let x = slice_index order i in
    let y = slice_index order j in
    let rx = remaining_at levels start end order i o (omega (arith, s.inside)) in
    let ry = remaining_at levels start end order j o (omega (arith, s.inside)) in
    let place : (d u : ℕ) → x < d → d < y → HasLevel levels d u → PlaceOf order d =
    λ d u a b h. place_of levels start end order d u o (omega (arith, rx.low)) (omega (arith, ry.high)) h in
    let out : (d u : ℕ) (a : x < d) (b : d < y) (h : HasLevel levels d u) → ((place d u a b h).at < from) ⊎
    (to ≤ (place d u a b h).at) → Outside levels x y d =
    λ d u a b h w.
    let p = place d u a b h in
    subst (λ n. Outside levels x y n) p.is
    (outside_at levels start end order from to v i j p.at o s ai bi aj bj p.inside w) in
    let here = place d u xd dy h in
    let never : ((here.at < from) ⊎ (to ≤ here.at)) → ⊥ = λ w.
    none_outside levels x y d v u (s.same i ai bi) (s.same j aj bj) h xd dy (out d u xd dy h w)
    (λ c t a b k ne. out c t a b k (place_outside levels order from to v (place c t a b k).at c t s
    (place c t a b k).is k ne)) in
    elim (cases_lt here.at from) [
      | inl l ↦ absurd (never (inl l))
      | inr l ↦ elim (cases_lt here.at to) [
        | inl m ↦ (here.at, l, m, here.is)
        | inr m ↦ absurd (never (inr m))
      ]
    ]

-- the least level between two of them is theirs
least_same : (levels : List (Option ℕ)) (start end : ℕ) (order : List ℕ) (from to v i j : ℕ) →
    IsLineOrder levels start end order → IsSameLevel levels order from to v → from ≤ i → i < to → from ≤ j → j < to →
    slice_index order i < slice_index order j → least levels (slice_index order i) (slice_index order j) ≡ v
least_same levels start end order from to v i j o s ai bi aj bj lt =
    let x = slice_index order i in
    let y = slice_index order j in
    least_of_one levels x y v lt (s.same i ai bi) (λ d u a b h. elim (cases_lt x d) [
      | inl xd ↦ elim (cases_lt d y) [
        | inl dy ↦
            let k = between_same levels start end order from to v i j d u o s ai bi aj bj xd dy h in
            level_same levels d (slice_index order k.0) u v (sym k.3) h (s.same k.0 k.1 k.2)
        | inr dy ↦ level_same levels d y u v (omega arith) h (s.same j aj bj)
      ]
      | inr xd ↦ level_same levels d x u v (omega arith) h (s.same i ai bi)
    ])

-- at an even level the positions rise
pub same-rising : (levels : List (Option ℕ)) (start end : ℕ) (order : List ℕ) (from to v i j : ℕ) →
    IsLineOrder levels start end order → IsSameLevel levels order from to v → v % 2 ≡ 0 → from ≤ i → i < j → j < to →
    slice_index order i < slice_index order j
same-rising levels start end order from to v i j o s even ai lt bj =
    let l = left_at levels start end order i j o lt (omega (arith, s.inside)) in
    elim (cases_lt (slice_index order i) (slice_index order j)) [
      | inl a ↦ a
      | inr a ↦
          let b : slice_index order j < slice_index order i = omega (arith, l.apart) in
          let e = least_same levels start end order from to v j i o s (omega arith) bj ai (omega arith) b in
          let odd : least levels (slice_index order j) (slice_index order i) % 2 ≡ 1 = l.falling b in
          let z : v % 2 ≡ 1 = ap (λ k. k % 2) (sym e) ∙ odd in absurd (omega arith)
    ]

-- at an odd level the positions fall
pub same-falling : (levels : List (Option ℕ)) (start end : ℕ) (order : List ℕ) (from to v i j : ℕ) →
    IsLineOrder levels start end order → IsSameLevel levels order from to v → v % 2 ≡ 1 → from ≤ i → i < j → j < to →
    slice_index order j < slice_index order i
same-falling levels start end order from to v i j o s odd ai lt bj =
    let l = left_at levels start end order i j o lt (omega (arith, s.inside)) in
    elim (cases_lt (slice_index order j) (slice_index order i)) [
      | inl a ↦ a
      | inr a ↦
          let b : slice_index order i < slice_index order j = omega (arith, l.apart) in
          let e = least_same levels start end order from to v i j o s ai (omega arith) (omega arith) bj b in
          let even : least levels (slice_index order i) (slice_index order j) % 2 ≡ 0 = l.rising b in
          let z : v % 2 ≡ 0 = ap (λ k. k % 2) (sym e) ∙ even in absurd (omega arith)
    ]

none_between : (levels : List (Option ℕ)) (x y c v w : ℕ) → x ≢ y → HasLevel levels x v → HasLevel levels y v →
    HasLevel levels c w → NoneBetween levels x y → NoneBetween levels y x → Left levels x c → Left levels c y → ⊥
none_between levels x y c v w ne hx hy hc up down l r =
    elim (cases_lt x y) [
      | inl a ↦ none_between_rising levels x y c v w a hx hy hc up l r
      | inr a ↦ none_between_falling levels x y c v w (omega arith) hx hy hc down l r
    ]

-- a position of their level is at one of these places, if no position remains between it and one of them in the text
pub beside_same : (levels : List (Option ℕ)) (start end : ℕ) (order : List ℕ) (from to v i q : ℕ) →
    IsLineOrder levels start end order → IsSameLevel levels order from to v → from ≤ i → i < to → start ≤ q → q < end →
    HasLevel levels q v → NoneBetween levels (slice_index order i) q → NoneBetween levels q (slice_index order i) →
    (k : ℕ) × (from ≤ k) × (k < to) × (slice_index order k ≡ q)
beside_same levels start end order from to v i q o s ai bi low high h up down =
    let x = slice_index order i in
    let p = place_of levels start end order q v o low high h in
    elim (cases_lt p.at from) [
      | inl l ↦
          let c = slice_index order (from - 1) in
          let e : from - 1 + 1 ≡ from = omega arith in
          let r = remaining_at levels start end order (from - 1) o (omega (arith, s.inside, s.some)) in
          let right : Left levels c x =
          left_at levels start end order (from - 1) i o (omega arith) (omega (arith, s.inside)) in
          elim (cases_lt p.at (from - 1)) [
            | inl m ↦
                let left : Left levels q c =
                subst (λ n. Left levels n c) p.is (left_at levels start end order p.at (from - 1) o m (omega (
                  arith,
                  s.inside,
                  s.some,
                ))) in
                let all : Left levels q x =
                subst (λ n. Left levels n x) p.is (left_at levels start end order p.at i o (omega arith)
                (omega (arith, s.inside))) in
                absurd (none_between levels q x c v r.level all.apart h (s.same i ai bi) r.has down up left right)
            | inr m ↦
                let same : p.at ≡ from - 1 = omega arith in
                let at : c ≡ q = ap (slice_index order) (sym same) ∙ p.is in
                absurd (s.before (from - 1) e (ap (λ n. slice_index_or levels n None) at ∙ h))
          ]
      | inr l ↦ elim (cases_lt p.at to) [
        | inl m ↦ (p.at, l, m, p.is)
        | inr m ↦ elim (cases_lt to p.at) [
          | inl n ↦
              let c = slice_index order to in
              let r = remaining_at levels start end order to o (omega (arith, p.inside)) in
              let left : Left levels x c = left_at levels start end order i to o bi (omega (arith, p.inside)) in
              let right : Left levels c q =
              subst (λ n. Left levels c n) p.is (left_at levels start end order to p.at o n p.inside) in
              let all : Left levels x q =
              subst (λ n. Left levels x n) p.is (left_at levels start end order i p.at o (omega arith) p.inside) in
              absurd (none_between levels x q c v r.level all.apart (s.same i ai bi) h r.has up down left right)
          | inr n ↦
              let same : p.at ≡ to = omega arith in
              let at : slice_index order to ≡ q = ap (slice_index order) (sym same) ∙ p.is in
              absurd (s.after (omega (arith, p.inside)) (ap (λ n. slice_index_or levels n None) at ∙ h))
        ]
      ]
    ]

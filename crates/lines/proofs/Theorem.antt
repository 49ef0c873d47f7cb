-- Two ways to define the order of a line: with places in the list, and with recursion on the list.
use Rattle.lines.specs.LinePositions.{IsAmong}
use Rattle.lines.proofs.Turns.{Before, Ordered}
use Rattle.std.proofs.Common.{◌≡◌, ℕ, ◌<◌, ◌≤◌, Option, Some, None, List, [], ◌∷◌, length, get_or, zero, suc, refl, sym, inl, inr, arith, eq-eqb, ne_eqb}
use Rattle.std.specs.Prelude.{IsSome, slice_index_or}
use Rattle.std.specs.List.{All, Contains, AllPairs}
use Rattle.std.proofs.lemmas.List.Elements.{All-from_get_or}
use Rattle.lines.proofs.Levels.{ordered_weaker}
use Rattle.lines.proofs.LineOrder.{InOrder, turns-one, precedes-is, even_from_true, odd_from_false, in_order_same, line_order-in_order}
use Rattle.units.specs.Reordering.{StandAs, IsLineOrder}
use Rattle.units.specs.Reordering.{line_order}

contains_next : (x p : ℕ) (xs : List ℕ) → Contains xs p → Contains (x ∷ xs) p
contains_next x p xs c = (suc c.0, omega (arith, c.1), c.2)

pub contains_from_has : (xs : List ℕ) (p : ℕ) → IsAmong xs p → Contains xs p
contains_from_has [] p h = absurd h
contains_from_has (x ∷ xs) p h =
    elim h [ inl e ↦ (0, omega arith, sym e) | inr t ↦ contains_next x p xs (contains_from_has xs p t) ]

pub has_at : (xs : List ℕ) (k d : ℕ) → k < length xs → IsAmong xs (get_or xs k d)
has_at [] k d h = absurd (omega arith)
has_at (x ∷ xs) zero d h = inl refl
has_at (x ∷ xs) (suc k) d h = inr (has_at xs k d (omega arith))

pub has_from_contains : (xs : List ℕ) (p : ℕ) → Contains xs p → IsAmong xs p
has_from_contains xs p c = let t = has_at xs c.0 p c.1 in rw c.2 at t

pub pairs_from_ordered : (r : ℕ → ℕ → Type 0) (xs : List ℕ) → Ordered r xs → AllPairs r xs
pairs_from_ordered r [] o i j d lt h = absurd (omega arith)
pairs_from_ordered r (x ∷ xs) o zero zero d lt h = absurd (omega arith)
pairs_from_ordered r (x ∷ xs) o zero (suc j) d lt h = o.0 (get_or xs j d) (has_at xs j d (omega arith))
pairs_from_ordered r (x ∷ xs) o (suc i) zero d lt h = absurd (omega arith)
pairs_from_ordered r (x ∷ xs) o (suc i) (suc j) d lt h = pairs_from_ordered r xs o.1 i j d (omega arith) (omega arith)

pub ordered_from_pairs : (r : ℕ → ℕ → Type 0) (xs : List ℕ) → AllPairs r xs → Ordered r xs
ordered_from_pairs r [] a = tt
ordered_from_pairs r (x ∷ xs) a = (
  λ y h.
      let c = contains_from_has xs y h in
      let t : r x (get_or xs c.0 y) = a 0 (suc c.0) y (omega arith) (omega (arith, c.1)) in
      rw c.2 at t,
  ordered_from_pairs r xs (λ i j d lt h. a (suc i) (suc j) d (omega arith) (omega arith)),
)

stand_as : (levels : List (Option ℕ)) (a b : ℕ) → Before levels 1 a b → StandAs levels a b
stand_as levels a b t = grind (arith, precedes-is, eq-eqb, turns-one, ne_eqb)

before_from_stand : (levels : List (Option ℕ)) (a b : ℕ) → StandAs levels a b → Before levels 1 a b
before_from_stand levels a b t = grind (arith, turns-one, even_from_true, odd_from_false)

some_from_level : (o : Option ℕ) (v : ℕ) → o ≡ Some v → IsSome o
some_from_level None v e = cc
some_from_level (Some w) v e = refl

level_from_some : (o : Option ℕ) → IsSome o → (v : ℕ) × (o ≡ Some v)
level_from_some None h = cc
level_from_some (Some w) h = (w, refl)

pub line_order_from : (levels : List (Option ℕ)) (start end : ℕ) (xs : List ℕ) → InOrder levels start end xs →
    IsLineOrder levels start end xs
line_order_from levels start end xs t =
    record {
      remaining = λ p. (
        λ c. let s = t.holds.sound p (has_from_contains xs p c) in
            (s.0, s.1, some_from_level (slice_index_or levels p None) s.2.0 s.2.1),
        λ s. let v = level_from_some (slice_index_or levels p None) s.2 in
            contains_from_has xs p (t.holds.complete p v.0 s.0 s.1 v.1),
      );
      pairs = pairs_from_ordered (StandAs levels) xs (ordered_weaker (Before levels 1) (StandAs levels) xs
          (λ x y hx hy b. stand_as levels x y b) t.ordered);
    }

pub in_order_from : (levels : List (Option ℕ)) (start end : ℕ) (xs : List ℕ) → IsLineOrder levels start end xs →
    InOrder levels start end xs
in_order_from levels start end xs t =
    record {
      holds = record {
        sound = λ p h.
            let s = (t.remaining p).0 (contains_from_has xs p h) in
            (s.0, s.1, level_from_some (slice_index_or levels p None) s.2);
        complete = λ p v a b hv.
            has_from_contains xs p ((t.remaining p).1 (a, b, some_from_level (slice_index_or levels p None) v hv));
      };
      ordered = ordered_weaker (StandAs levels) (Before levels 1) xs (λ x y hx hy s. before_from_stand levels x y s)
          (ordered_from_pairs (StandAs levels) xs t.pairs);
    }

-- the defined order is such a list
pub line_order-is : (levels : List (Option ℕ)) (start end : ℕ) → start ≤ end →
    IsLineOrder levels start end (line_order levels start end)
line_order-is levels start end le =
    line_order_from levels start end (line_order levels start end) (line_order-in_order levels start end le)

-- it is the only one
pub line_order-only : (levels : List (Option ℕ)) (start end : ℕ) (xs : List ℕ) → start ≤ end →
    IsLineOrder levels start end xs → xs ≡ line_order levels start end
line_order-only levels start end xs le t =
    in_order_same levels start end xs (line_order levels start end)
    (in_order_from levels start end xs t)
    (line_order-in_order levels start end le)

-- its positions are in the text
pub line_order-places : (levels : List (Option ℕ)) (start end : ℕ) → start ≤ end → end ≤ length levels →
    All (λ p. p < length levels) (line_order levels start end)
line_order-places levels start end le fits =
    let o = line_order-in_order levels start end le in
    All-from_get_or (λ p. p < length levels) (line_order levels start end) 0
    (λ i h. let s = o.holds.sound (get_or (line_order levels start end) i 0)
    (has_at (line_order levels start end) i 0 h) in omega (arith, s.1))

-- Spans laid over values, and the resulting values.
use Rattle.std.proofs.Common.{◌≡◌, ℕ, suc, ◌+◌, ◌<◌, ◌≤◌, Bool, true, Option, None, Some, List, [], ◌∷◌, ◌++◌, length, get_or, reverse, refl, ap, ◌∙◌, arith}
use Rattle.std.specs.List.{find}
use Rattle.std.specs.Cmp.Lexicographic.{pointwise}
use Rattle.std.specs.Option.{option_or, unwrap_or}
use Rattle.std.proofs.lemmas.Bool.{leb-true, le-leb, false≢true, and_parts}
use Rattle.std.proofs.lemmas.List.Folds.{find-append}
use Rattle.std.proofs.lemmas.Grind.{reverse_onto}
use Rattle.ucdfiles.specs.declared.span.Span.{Span}
use Rattle.ucdfiles.specs.Spans.{holds, IsRising, value_by, value_in}
use Rattle.ucdfiles.proofs.Rising.{find-none, outside_before}
use Rattle.ucdfiles.specs.Stages.{value_over, value_over_all}

module _ {V : Type 0} where
  pub value_over_all-push : (c : ℕ) (spans : List (Span V)) (span : Span V) (v : V) →
      value_over_all c (spans ++ span ∷ []) v ≡ value_over c span (value_over_all c spans v)
  value_over_all-push c [] span v = refl
  value_over_all-push c (s ∷ spans) span v = value_over_all-push c spans span (value_over c s v)

  -- the values before an index are painted, the others are unchanged
  pub record IsPaintedUpTo (first : ℕ) (span : Span V) (n : ℕ) (old new : List V) : Type 0 where
    pub size : length new ≡ length old
    pub done : (k : ℕ) (d : V) → k < n → k < length old → get_or new k d ≡ value_over (first + k) span (get_or old k d)
    pub rest : (k : ℕ) (d : V) → n ≤ k → get_or new k d ≡ get_or old k d

  -- all values are painted with these spans
  pub record IsPaintedBy (first : ℕ) (spans : List (Span V)) (old new : List V) : Type 0 where
    pub size : length new ≡ length old
    pub done : (k : ℕ) (d : V) → k < length old → get_or new k d ≡ value_over_all (first + k) spans (get_or old k d)

  -- one more span
  pub painted-more : (first : ℕ) (spans : List (Span V)) (span : Span V) (old mid new : List V) →
      IsPaintedBy first spans old mid → length new ≡ length mid
      → ((k : ℕ) (d : V) → k < length mid → get_or new k d ≡ value_over (first + k) span (get_or mid k d)) →
      IsPaintedBy first (spans ++ span ∷ []) old new
  painted-more first spans span old mid new h size values = grind (arith, value_over_all-push)

  -- the value of the first span, else of the second, else the given value
  unwrap_or-both : (a b : Option (Span V)) (v : V) →
      unwrap_or (value_by None a) (unwrap_or (value_by None b) v) ≡ unwrap_or (value_by None (option_or a b)) v
  unwrap_or-both None b v = refl
  unwrap_or-both (Some s) b v = refl

  value_over-find : (c : ℕ) (s : Span V) (v : V) →
      value_over c s v ≡ unwrap_or (value_by None (find (holds c) (s ∷ []))) v
  value_over-find c s v = grind arith

  -- the last span that contains a code point determines its value
  pub value_over_all-last : (c : ℕ) (spans : List (Span V)) (v : V) →
      value_over_all c spans v ≡ unwrap_or (value_by None (find (holds c) (reverse spans))) v
  value_over_all-last c [] v = refl
  value_over_all-last c (s ∷ spans) v =
      grind (
        arith,
        reverse_onto,
        find-append,
        value_over-find,
        unwrap_or-both,
        value_over_all-last c spans (value_over c s v),
      )

  rising-tail : (s : Span V) (spans : List (Span V)) → IsRising (s ∷ spans) → IsRising spans
  rising-tail s spans rising = record {
    each = λ k d lt. rising.each (suc k) d (omega arith);
    apart = λ i j d less lt. rising.apart (suc i) (suc j) d (omega arith) (omega arith);
  }

  -- if the first of some spans in order contains a code point, the spans after it don't
  none_after : (c : ℕ) (s : Span V) (spans : List (Span V)) → IsRising (s ∷ spans) → holds c s ≡ true →
      find (holds c) spans ≡ None
  none_after c s spans rising stored =
      find-none (holds c) spans (λ k d lt.
      outside_before c (get_or spans k d) (omega (
        arith,
        leb-true c s.last ((and_parts _ _ stored).1),
        rising.apart 0 (suc k) d (omega arith) (omega arith),
      )))

  -- so the span that contains it determines its value
  pub value_over_all-rising : (c : ℕ) (spans : List (Span V)) (v : V) → IsRising spans →
      value_over_all c spans v ≡ unwrap_or (value_by (find (holds c) spans) None) v
  value_over_all-rising c [] v rising = refl
  value_over_all-rising c (s ∷ spans) v rising =
      grind (
        arith,
        rising-tail,
        none_after,
        value_over_all-rising c spans (value_over c s v) (rising-tail s spans rising),
      )

  either : (a b : Option (Span V)) (v : V) →
      unwrap_or (value_by a None) (unwrap_or (value_by None b) v) ≡ unwrap_or (value_by a b) v
  either None b v = refl
  either (Some s) b v = refl

  -- defaults first, and then spans in order
  pub painted-value : (c : ℕ) (spans defaults : List (Span V)) (v : V) → IsRising spans →
      value_over_all c spans (value_over_all c defaults v) ≡ unwrap_or (value_in spans defaults c) v
  painted-value c spans defaults v rising = grind (arith, value_over_all-rising, value_over_all-last, either)

  -- if the same span of two lists contains a code point, both lists give it the same value
  pub value_in-find : (c : ℕ) (some spans defaults : List (Span V)) → find (holds c) some ≡ find (holds c) spans →
      value_in some defaults c ≡ value_in spans defaults c
  value_in-find c some spans defaults same = ap (λ o. value_by o (find (holds c) (reverse defaults))) same

  -- a span of everything leaves its value
  pub value_over-everything : (c : ℕ) (none v : V) → c ≤ 0x10FFFF →
      value_over c (record { first = 0; last = 0x10FFFF; value = none }) v ≡ none
  value_over-everything c none v le = grind (arith, le-leb)

  -- lists of elements that an exact comparison finds equal
  pub pointwise-exact : (equal : V → V → Bool) → ((x y : V) → equal x y ≡ true → x ≡ y) → (xs ys : List V) →
      pointwise equal xs ys ≡ true → xs ≡ ys
  pointwise-exact equal exact [] [] e = refl
  pointwise-exact equal exact [] (y ∷ ys) e = absurd (false≢true e)
  pointwise-exact equal exact (x ∷ xs) [] e = absurd (false≢true e)
  pointwise-exact equal exact (x ∷ xs) (y ∷ ys) e =
      let head : x ≡ y = exact x y ((and_parts _ _ e).0) in
      let tail : xs ≡ ys = pointwise-exact equal exact xs ys ((and_parts _ _ e).1) in
      ap (λ z. z ∷ xs) head ∙ ap (λ zs. y ∷ zs) tail

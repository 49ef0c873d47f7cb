-- Lists with values at a stretch of positions.
use Rattle.std.proofs.Common.{◌≡◌, ℕ, ◌+◌, ◌<◌, ◌≤◌, List, length, get_or, set, Option, None, inl, inr, refl, sym, ap, ◌∙◌, arith}
use Rattle.std.proofs.lemmas.Bool.{and_right, cases_eq, cases_lt, le-leb, le-ltb, lt-leb, lt-ltb}
use Rattle.std.proofs.lemmas.List.{ext_get_or, get_or-map, get_or-set_other, get_or-set_same, length-map, length-set}
use Rattle.std.specs.Prelude.{◌&&◌, ◌⊎◌, if◌then◌else◌, nat_le, nat_lt}
use Rattle.units.specs.Positions.{positions_of}
use Rattle.units.proofs.Positions.{get_or-positions_from, length-positions_from}
use Rattle.explicit.specs.Stretches.{with_stretch}

module _ {X : Type 0} (value : ℕ → Option X) where
  pub stretched_length : (from end : ℕ) (xs : List (Option X)) → length (with_stretch from end value xs) ≡ length xs
  stretched_length from end xs =
      length-map (positions_of xs) (λ p. if nat_le from p && nat_lt p end then value p else get_or xs p None) ∙
      length-positions_from 0 (length xs)

  stretched_read : (from end : ℕ) (xs : List (Option X)) (k : ℕ) → k < length xs →
      get_or (with_stretch from end value xs) k None ≡
      (if nat_le from k && nat_lt k end then value k else get_or xs k None)
  stretched_read from end xs k h =
      let f : ℕ → Option X = λ p. if nat_le from p && nat_lt p end then value p else get_or xs p None in
      let n : length (positions_of xs) ≡ length xs = length-positions_from 0 (length xs) in
      let at : get_or (positions_of xs) k 0 ≡ k = omega (arith, get_or-positions_from 0 (length xs) k 0 h) in
      get_or-map f (positions_of xs) k 0 None (omega (arith, n)) ∙ ap f at

  -- at its positions, and at the others
  pub stretched_inside : (from end : ℕ) (xs : List (Option X)) (k : ℕ) → k < length xs → from ≤ k → k < end →
      get_or (with_stretch from end value xs) k None ≡ value k
  stretched_inside from end xs k h low high = stretched_read from end xs k h ∙
      rw (le-leb from k low, lt-ltb k end high) refl

  pub stretched_outside : (from end : ℕ) (xs : List (Option X)) (k : ℕ) → k < length xs → (k < from) ⊎ (end ≤ k) →
      get_or (with_stretch from end value xs) k None ≡ get_or xs k None
  stretched_outside from end xs k h (inl before) = stretched_read from end xs k h ∙ rw (lt-leb from k before) refl
  stretched_outside from end xs k h (inr following) = stretched_read from end xs k h ∙
      rw (and_right (nat_le from k) (nat_lt k end) (le-ltb k end following)) refl

  -- no position
  pub stretched_none : (from : ℕ) (xs : List (Option X)) → with_stretch from from value xs ≡ xs
  stretched_none from xs = ext_get_or None (with_stretch from from value xs) xs (stretched_length from from xs) (λ k h.
      let l : k < length xs = omega (arith, stretched_length from from xs) in
      stretched_outside from from xs k l (cases_lt k from))

  -- one position more
  pub stretched_next : (from p : ℕ) (xs : List (Option X)) → from ≤ p →
      set (with_stretch from p value xs) p (value p) ≡ with_stretch from (p + 1) value xs
  stretched_next from p xs low =
      let n = stretched_length from p xs in
      let m = length-set (with_stretch from p value xs) p (value p) in
      ext_get_or None (set (with_stretch from p value xs) p (value p)) (with_stretch from (p + 1) value xs) (m ∙ n ∙
      sym (stretched_length from (p + 1) xs)) (λ k h.
      let l : k < length xs = omega (arith, n, m) in
      elim (cases_eq k p) [
        | inl e ↦ rw e (get_or-set_same (with_stretch from p value xs) p (value p) None (omega (arith, n, e)) ∙
            sym (stretched_inside from (p + 1) xs p (omega (arith, e)) low (omega arith)))
        | inr other ↦ get_or-set_other (with_stretch from p value xs) p k (value p) None other ∙
            elim (cases_lt k from) [
              | inl before ↦ stretched_outside from p xs k l (inl before) ∙
                  sym (stretched_outside from (p + 1) xs k l (inl before))
              | inr after ↦ elim (cases_lt k p) [
                | inl inside ↦ stretched_inside from p xs k l after inside ∙
                    sym (stretched_inside from (p + 1) xs k l after (omega arith))
                | inr following ↦ stretched_outside from p xs k l (inr following) ∙
                    sym (stretched_outside from (p + 1) xs k l (inr (omega arith)))
              ]
            ]
      ])

  -- and many more
  pub stretched_further : (from p end : ℕ) (xs : List (Option X)) → from ≤ p → p ≤ end →
      with_stretch p end value (with_stretch from p value xs) ≡ with_stretch from end value xs
  stretched_further from p end xs low high =
      let ys : List (Option X) = with_stretch from p value xs in
      let n = stretched_length from p xs in
      let m = stretched_length p end ys in
      ext_get_or None (with_stretch p end value ys) (with_stretch from end value xs) (m ∙ n ∙
      sym (stretched_length from end xs)) (λ k h.
      let l : k < length xs = omega (arith, n, m) in
      let l' : k < length ys = omega (arith, n, m) in
      elim (cases_lt k p) [
        | inl under ↦ stretched_outside p end ys k l' (inl under) ∙ elim (cases_lt k from) [
          | inl before ↦ stretched_outside from p xs k l (inl before) ∙
              sym (stretched_outside from end xs k l (inl before))
          | inr after ↦ stretched_inside from p xs k l after under ∙
              sym (stretched_inside from end xs k l after (omega arith))
        ]
        | inr over ↦ elim (cases_lt k end) [
          | inl inside ↦ stretched_inside p end ys k l' over inside ∙
              sym (stretched_inside from end xs k l (omega arith) inside)
          | inr following ↦ stretched_outside p end ys k l' (inr following) ∙
              stretched_outside from p xs k l (inr over) ∙ sym (stretched_outside from end xs k l (inr following))
        ]
      ])

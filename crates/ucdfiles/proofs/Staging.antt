-- Blocks of values, one after the other.
use Rattle.std.proofs.Common.{◌≡◌, ℕ, ◌+◌, ◌*◌, ◌%◌, ◌<◌, ◌≤◌, List, [], ◌∷◌, ◌++◌, length, get_or, sym, ap, ◌∙◌, arith, inl, inr, length-append}
use Rattle.std.specs.Option.{unwrap_or}
use Rattle.std.proofs.lemmas.Bool.{cases_lt}
use Rattle.std.proofs.lemmas.List.{get_or_default}
use Rattle.std.proofs.Math.ListN.{get_or-append}
use Rattle.std.proofs.Math.Seq.{get_or-append_seam}
use Rattle.ucdfiles.specs.declared.span.Span.{Span}
use Rattle.ucdfiles.specs.Spans.{value_in}
use Rattle.ucdfiles.specs.Stages.{AreStages, HasBlock}

module _ {V : Type 0} where
  -- the blocks before the n-th
  pub record AreStagesUpTo (n : ℕ) (spans defaults : List (Span V)) (none : V) (numbers : List ℕ)
      (values : List V) : Type 0 where
    pub size : length numbers ≡ n
    pub whole : length values % 128 ≡ 0
    pub most : length values ≤ n * 128
    pub within : (k : ℕ) → k < n → get_or numbers k 0 * 128 + 128 ≤ length values
    pub stated : (k j : ℕ) (d : V) → k < n → j < 128 →
        get_or values (get_or numbers k 0 * 128 + j) d ≡ unwrap_or (value_in spans defaults (k * 128 + j)) none

  -- one more block
  pub one_more : (n : ℕ) (spans defaults : List (Span V)) (none : V) (numbers : List ℕ) (values more new block : List V)
      (number : ℕ) → AreStagesUpTo n spans defaults none numbers values
      → new ≡ values ++ more → length new % 128 ≡ 0 → length new ≤ length values + 128 →
      number * 128 + 128 ≤ length new → HasBlock new number block
      → ((k : ℕ) (d : V) → k < 128 → get_or block k d ≡ unwrap_or (value_in spans defaults (n * 128 + k)) none)
      → AreStagesUpTo (n + 1) spans defaults none (numbers ++ number ∷ []) new
  one_more n spans defaults none numbers values more new block number h grown whole most within has says =
      let size : length new ≡ length values + length more = ap length grown ∙ length-append values more in
      let front = λ (k : ℕ) (low : k < n). (let e : get_or (numbers ++ number ∷ []) k 0 ≡ get_or numbers k 0 =
      get_or-append numbers (number ∷ []) 0 k (omega (arith, h.size)) in e) in
      let own : get_or (numbers ++ number ∷ []) n 0 ≡ number =
      ap (λ m. get_or (numbers ++ number ∷ []) m 0) (sym h.size) ∙ get_or-append_seam numbers number [] 0 in
      record {
        size = omega (arith, h.size, length-append numbers (number ∷ []));
        whole = whole;
        most = omega (arith, h.most, most);
        within = λ k lt. elim (cases_lt k n) [
          | inl low ↦ omega (arith, front k low, h.within k low, size)
          | inr high ↦ (let e : k ≡ n = omega arith in
              omega (arith, ap (λ m. get_or (numbers ++ number ∷ []) m 0) e, own, within))
        ];
        stated = λ k j d lt small. elim (cases_lt k n) [
          | inl low ↦
              let at : get_or (numbers ++ number ∷ []) k 0 * 128 + j ≡ get_or numbers k 0 * 128 + j =
              ap (λ p. p * 128 + j) (front k low) in
              let unchanged : get_or new (get_or numbers k 0 * 128 + j) d ≡
              get_or values (get_or numbers k 0 * 128 + j) d =
              ap (λ vs. get_or vs (get_or numbers k 0 * 128 + j) d) grown ∙
              get_or-append values more d (get_or numbers k 0 * 128 + j) (omega (arith, h.within k low)) in
              ap (λ i. get_or new i d) at ∙ unchanged ∙ h.stated k j d low small
          | inr high ↦
              let e : k ≡ n = omega arith in
              let at : get_or (numbers ++ number ∷ []) k 0 * 128 + j ≡ number * 128 + j =
              ap (λ p. p * 128 + j) (ap (λ m. get_or (numbers ++ number ∷ []) m 0) e ∙ own) in
              ap (λ i. get_or new i d) at ∙ has j d small ∙ says j d small ∙
              ap (λ m. unwrap_or (value_in spans defaults (m * 128 + j)) none) (sym e)
        ];
      }

  module _ (spans defaults : List (Span V)) (none : V) (numbers : List ℕ) (values : List V)
      (h : AreStagesUpTo 8704 spans defaults none numbers values) where
    pub all-stages : AreStages (record { numbers = numbers; values = values })
    all-stages = record {
      blocks = h.size;
      within = λ k d lt. (let e : get_or numbers k d ≡ get_or numbers k 0 =
          get_or_default numbers k d 0 lt in omega (arith, e, h.within k (omega (arith, h.size))));
    }

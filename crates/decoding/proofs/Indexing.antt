-- One more break is found among the offsets.
use Rattle.std.proofs.Common.{◌≡◌, ◌≢◌, ℕ, ◌+◌, ◌-◌, ◌<◌, ◌≤◌, List, [], ◌∷◌, ◌++◌, length, get_or, take, set, map, refl, sym, ap, ◌∙◌, inl, inr, subst, arith}
use Rattle.std.specs.Prelude.{slice_index}
use Rattle.std.specs.List.{All}
use Rattle.std.proofs.lemmas.Bool.{cases_eq}
use Rattle.std.proofs.lemmas.List.{get_or-map, map-append, take_more, take_more_set, length-take-le, get_or-take}
use Rattle.std.proofs.lemmas.List.Elements.{All-push}
use Rattle.decoding.specs.Starts.{BeginsAt, Rises}

-- the column has the indices of the first `next` breaks, and the next break is not among the first k offsets
pub record IsIndexed (starts breaks column : List ℕ) (next k : ℕ) : Type 0 where
  pub few : next ≤ length breaks
  pub found : map (slice_index starts) (take next column) ≡ take next breaks
  pub inside : All (λ (j : ℕ). j < length starts) (take next column)
  pub passed : (j : ℕ) → j < k → next < length breaks → slice_index starts j ≢ slice_index breaks next

-- no break has an index yet
pub indexed_none : (starts breaks column : List ℕ) → IsIndexed starts breaks column 0 0
indexed_none starts breaks column = record {
  few = omega arith;
  found = refl;
  inside = λ k d lt. absurd (omega (arith, lt));
  passed = λ j lt _. absurd (omega (arith, lt));
}

-- the next break is at the offset with the index k
pub indexed_more : (starts breaks column : List ℕ) (next k : ℕ) → Rises starts
    → ((i : ℕ) → 0 < i → i < length breaks → slice_index breaks (i - 1) < slice_index breaks i)
    → k < length starts → next < length breaks → next < length column → slice_index starts k ≡ slice_index breaks next
    → IsIndexed starts breaks column next k → IsIndexed starts breaks (set column next k) (next + 1) (k + 1)
indexed_more starts breaks column next k rises breaks_rise lt more room is i = record {
  few = omega (arith, more);
  found = ap (map (slice_index starts)) (take_more_set column next k room)
      ∙ map-append (slice_index starts) (take next column) (k ∷ [])
      ∙ ap (λ xs. xs ++ slice_index starts k ∷ []) i.found
      ∙ ap (λ x. take next breaks ++ x ∷ []) is
      ∙ sym (take_more breaks next 0 more);
  inside = subst (All (λ (j : ℕ). j < length starts)) (sym (take_more_set column next k room)) (All-push (λ (j : ℕ).
      j < length starts) (take next column) k i.inside lt);
  passed = λ j below after same.
      let step : slice_index breaks next < slice_index breaks (next + 1) =
      subst (λ n. slice_index breaks n < slice_index breaks (next + 1)) (omega arith)
      (breaks_rise (next + 1) (omega arith) after) in
      elim (cases_eq j k) [
        | inl e ↦ omega (arith, step, is, same, ap (slice_index starts) e)
        | inr ne ↦ let under : slice_index starts j < slice_index starts k = rises j k (omega (arith, below, ne)) lt in
            omega (arith, step, is, same, under)
      ];
}

-- the offset with the index k is not the next break
pub indexed_past : (starts breaks column : List ℕ) (next k : ℕ) → slice_index starts k ≢ slice_index breaks next
    → IsIndexed starts breaks column next k → IsIndexed starts breaks column next (k + 1)
indexed_past starts breaks column next k other i = record {
  few = i.few;
  found = i.found;
  inside = i.inside;
  passed = λ j below after. elim (cases_eq j k) [
    | inl e ↦ subst (λ n. slice_index starts n ≢ slice_index breaks next) (sym e) other
    | inr ne ↦ i.passed j (omega (arith, below, ne)) after
  ];
}

-- each break that has an index is one of the offsets
pub begins_earlier : (starts breaks column : List ℕ) (next k : ℕ) → next ≤ length column →
    IsIndexed starts breaks column next k
    → (i : ℕ) → i < next → BeginsAt starts (slice_index breaks i)
begins_earlier starts breaks column next k room x i lt =
    let len = length-take-le next column room in
    let read = get_or-take next column i 0 lt in
    record {
      index = slice_index column i;
      inside = subst (λ n. n < length starts) read (x.inside i 0 (omega (arith, len, lt)));
      begins = ap (slice_index starts) (sym read) ∙
          sym (get_or-map (slice_index starts) (take next column) i 0 0 (omega (arith, len, lt)))
          ∙ ap (λ xs. get_or xs i 0) x.found ∙ get_or-take next breaks i 0 lt;
    }

-- the same columns
pub indexed_as : (starts breaks column now : List ℕ) (next more k : ℕ) → now ≡ column → more ≡ next →
    IsIndexed starts breaks column next k → IsIndexed starts breaks now more k
indexed_as starts breaks column now next more k same_column same_next i =
    subst (λ xs. IsIndexed starts breaks xs more k) (sym same_column) (subst (λ n. IsIndexed starts breaks column n k)
    (sym same_next) i)

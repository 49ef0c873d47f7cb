-- L1 of a text, from its first paragraph and the rest.
use Rattle.std.proofs.Common.{◌≡◌, ℕ, zero, suc, ◌+◌, ◌-◌, ◌<◌, true, Option, None, List, [], ◌∷◌, ◌++◌, length, get_or, take, refl, sym, ap, ◌∙◌, inl, inr, arith, take_all}
use Rattle.std.specs.Prelude.{◌||◌, ◌&&◌, count_by}
use Rattle.std.proofs.lemmas.Bool.{cases_lt}
use Rattle.std.proofs.lemmas.List.{ext_get_or, get_or_append_left, get_or-append-add, length-append, take-append-le}
use Rattle.std.proofs.Math.Seq.{take-append-add}
use Rattle.std.proofs.lemmas.List.Sums.{count_by_more_no, count_by_more_yes, sum_by-append}
use Rattle.units.specs.Classes.{class_at, is_separator}
use Rattle.units.specs.Reordering.{after_resets, begins_line, is_reset, para_level_at, reset_to}
use Rattle.units.specs.declared.class.Class.{Class}
use Rattle.units.specs.declared.class.Class.TheVariants.{L}
use Rattle.lines.specs.Spaces.{resets_before}
use Rattle.lines.proofs.LineEnd.{may_reset}
use Rattle.lines.proofs.TextEnd.{resets_in, resets_in-is, resets_in-end, resets_to-is, is_reset-is, length-after_resets, get_or-after_resets}
use Rattle.printing.proofs.HeadBreaks.{AreBelow, EndsAsParagraph, following, begins_in_first, begins_right, class_in_first, class_in_second}

resets_step : (own : List Class) (at : List ℕ) (p : ℕ) → p < length own →
    resets_in own at p ≡ (begins_line own at p || resets_before (class_at own p) (resets_in own at (p + 1)))
resets_step own at p low = resets_in-is own at p low ∙ ap (λ t. begins_line own at p || t) (resets_to-is own at p low)

module _ (own rest : List Class) (bs cs : List ℕ) (h : EndsAsParagraph own) (all : AreBelow (length own) bs)
    (more : 0 < length rest) where
  abbrev n : ℕ
  n = length own

  abbrev whole : List Class
  whole = own ++ rest

  abbrev at : List ℕ
  at = bs ++ following (length own) cs

  begins_rest : begins_line whole at n ≡ true
  begins_rest = let e : n + 0 ≡ n = omega arith in ap (begins_line whole at) (sym e) ∙
      begins_right own rest bs cs 0 h all

  resets_in_first : (count p : ℕ) → p + count ≡ n → resets_in whole at p ≡ resets_in own bs p
  resets_in_first zero p e =
      let here : p ≡ n = omega arith in
      let long = length-append own rest in
      ap (resets_in whole at) here
      ∙ resets_step whole at n (omega arith)
      ∙ ap (λ t. t || resets_before (class_at whole n) (resets_in whole at (n + 1))) begins_rest
      ∙ sym (resets_in-end own bs p (omega arith))
  resets_in_first (suc count) p e =
      let long = length-append own rest in
      resets_step whole at p (omega arith)
      ∙ ap (λ t. t || resets_before (class_at whole p) (resets_in whole at (p + 1)))
      (begins_in_first own rest bs cs p (omega arith))
      ∙ ap (λ c. begins_line own bs p || resets_before c (resets_in whole at (p + 1)))
      (class_in_first own rest bs cs p (omega arith))
      ∙ ap (λ t. begins_line own bs p || resets_before (class_at own p) t) (resets_in_first count (p + 1) (omega arith))
      ∙ sym (resets_step own bs p (omega arith))

  resets_in_second : (count j : ℕ) → j + count ≡ length rest → resets_in whole at (n + j) ≡ resets_in rest cs j
  resets_in_second zero j e =
      let long = length-append own rest in
      resets_in-end whole at (n + j) (omega arith) ∙ sym (resets_in-end rest cs j (omega arith))
  resets_in_second (suc count) j e =
      let long = length-append own rest in
      let next : n + j + 1 ≡ n + (j + 1) = omega arith in
      resets_step whole at (n + j) (omega arith)
      ∙ ap (λ t. t || resets_before (class_at whole (n + j)) (resets_in whole at (n + j + 1)))
      (begins_right own rest bs cs j h all)
      ∙ ap (λ c. begins_line rest cs j || resets_before c (resets_in whole at (n + j + 1)))
      (class_in_second own rest bs cs j)
      ∙ ap (λ q. begins_line rest cs j || resets_before (class_at rest j) (resets_in whole at q)) next
      ∙ ap (λ t. begins_line rest cs j || resets_before (class_at rest j) t)
      (resets_in_second count (j + 1) (omega arith))
      ∙ sym (resets_step rest cs j (omega arith))

  reset_in_first : (p : ℕ) → p < n → is_reset whole at p ≡ is_reset own bs p
  reset_in_first p low =
      is_reset-is whole at p
      ∙ ap (λ c. resets_before c (resets_in whole at (p + 1)) && may_reset c) (class_in_first own rest bs cs p low)
      ∙ ap (λ t. resets_before (class_at own p) t && may_reset (class_at own p))
      (resets_in_first (n - (p + 1)) (p + 1) (omega arith))
      ∙ sym (is_reset-is own bs p)

  reset_in_second : (j : ℕ) → j < length rest → is_reset whole at (n + j) ≡ is_reset rest cs j
  reset_in_second j low =
      let next : n + j + 1 ≡ n + (j + 1) = omega arith in
      is_reset-is whole at (n + j)
      ∙ ap (λ c. resets_before c (resets_in whole at (n + j + 1)) && may_reset c) (class_in_second own rest bs cs j)
      ∙ ap (λ q. resets_before (class_at rest j) (resets_in whole at q) && may_reset (class_at rest j)) next
      ∙ ap (λ t. resets_before (class_at rest j) t && may_reset (class_at rest j))
      (resets_in_second (length rest - (j + 1)) (j + 1) (omega arith))
      ∙ sym (is_reset-is rest cs j)

  -- no separator is before a position of the paragraph
  no_separator_before : (p : ℕ) → p < n → count_by is_separator (take p own) ≡ 0
  no_separator_before zero low = refl
  no_separator_before (suc p) low =
      let e : suc p ≡ p + 1 = omega arith in
      ap (λ q. count_by is_separator (take q own)) e
      ∙ count_by_more_no is_separator own p L (omega arith) (h.plain p (omega arith))
      ∙ no_separator_before p (omega arith)

  count_whole : count_by is_separator own ≡ 1
  count_whole =
      let some = h.some in
      let e : n ≡ n - 1 + 1 = omega arith in
      ap (count_by is_separator) (sym (take_all n own (omega arith)))
      ∙ ap (λ q. count_by is_separator (take q own)) e
      ∙ count_by_more_yes is_separator own (n - 1) L (omega arith) h.ends
      ∙ ap (λ k. k + 1) (no_separator_before (n - 1) (omega arith))

  para_in_first : (level : ℕ) (levels : List ℕ) (p : ℕ) → p < n →
      para_level_at whole (level ∷ levels) p ≡ para_level_at own (level ∷ []) p
  para_in_first level levels p low =
      ap (λ cs. get_or (level ∷ levels) (count_by is_separator cs) 0) (take-append-le p own rest (omega arith))
      ∙ ap (λ k. get_or (level ∷ levels) k 0) (no_separator_before p low)
      ∙ sym (ap (λ k. get_or (level ∷ []) k 0) (no_separator_before p low))

  para_in_second : (level : ℕ) (levels : List ℕ) (j : ℕ) →
      para_level_at whole (level ∷ levels) (n + j) ≡ para_level_at rest levels j
  para_in_second level levels j =
      let counted : count_by is_separator (take (n + j) whole) ≡ suc (count_by is_separator (take j rest)) =
      ap (count_by is_separator) (take-append-add own rest j) ∙ sum_by-append _ own (take j rest)
      ∙ ap (λ k. k + count_by is_separator (take j rest)) count_whole ∙ omega arith in
      ap (λ k. get_or (level ∷ levels) k 0) counted

  -- L1: the levels of each part are those that it has as a text of its own
  pub resets_joined : (level : ℕ) (levels : List ℕ) (xs ys : List (Option ℕ)) → length xs ≡ length own →
      length ys ≡ length rest →
      after_resets (own ++ rest) (bs ++ following (length own) cs) (level ∷ levels) (xs ++ ys)
      ≡ after_resets own bs (level ∷ []) xs ++ after_resets rest cs levels ys
  resets_joined level levels xs ys a b =
      let remaining : List (Option ℕ) = after_resets own bs (level ∷ []) xs in
      let right : List (Option ℕ) = after_resets rest cs levels ys in
      let c : length remaining ≡ length xs = length-after_resets own bs (level ∷ []) xs in
      let d : length right ≡ length ys = length-after_resets rest cs levels ys in
      let e = length-append xs ys in
      let f = length-append remaining right in
      let g : length (after_resets whole at (level ∷ levels) (xs ++ ys)) ≡ length (xs ++ ys) =
      length-after_resets whole at (level ∷ levels) (xs ++ ys) in
      ext_get_or None (after_resets whole at (level ∷ levels) (xs ++ ys)) (remaining ++ right) (omega arith) (λ k low.
      elim (cases_lt k (length own)) [
        | inl lt ↦
            get_or-after_resets whole at (level ∷ levels) (xs ++ ys) k (omega arith)
            ∙ ap (λ t. reset_to t (para_level_at whole (level ∷ levels) k) (get_or (xs ++ ys) k None))
            (reset_in_first k lt)
            ∙ ap (λ v. reset_to (is_reset own bs k) v (get_or (xs ++ ys) k None)) (para_in_first level levels k lt)
            ∙ ap (reset_to (is_reset own bs k) (para_level_at own (level ∷ []) k))
            (get_or_append_left xs ys None k (omega arith))
            ∙ sym (get_or-after_resets own bs (level ∷ []) xs k (omega arith))
            ∙ sym (get_or_append_left remaining right None k (omega arith))
        | inr ge ↦
            let j : ℕ = k - length own in
            let at_own : k ≡ length own + j = omega arith in
            let at_xs : k ≡ length xs + j = omega arith in
            let in_first : k ≡ length remaining + j = omega arith in
            let inside : j < length rest = omega arith in
            get_or-after_resets whole at (level ∷ levels) (xs ++ ys) k (omega arith)
            ∙ ap (λ t. reset_to t (para_level_at whole (level ∷ levels) k) (get_or (xs ++ ys) k None))
            (ap (is_reset whole at) at_own ∙ reset_in_second j inside)
            ∙ ap (λ v. reset_to (is_reset rest cs j) v (get_or (xs ++ ys) k None))
            (ap (para_level_at whole (level ∷ levels)) at_own ∙ para_in_second level levels j)
            ∙ ap (reset_to (is_reset rest cs j) (para_level_at rest levels j))
            (ap (λ q. get_or (xs ++ ys) q None) at_xs ∙ get_or-append-add xs ys j None)
            ∙ sym (get_or-after_resets rest cs levels ys j (omega arith))
            ∙ sym (ap (λ q. get_or (remaining ++ right) q None) in_first ∙ get_or-append-add remaining right j None)
      ])

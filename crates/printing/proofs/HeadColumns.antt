-- Breaks at columns of a text, from its first paragraph and the rest.
use Rattle.std.proofs.Common.{◌≡◌, ℕ, zero, suc, ◌+◌, ◌-◌, ◌%◌, ◌<◌, ◌≤◌, Bool, true, cond, Some, List, [], ◌∷◌, ◌++◌, length, refl, sym, ap, ◌∙◌, inl, inr, arith}
use Rattle.std.specs.Prelude.{filter, nat_lt, not, ◌&&◌, ◌==◌}
use Rattle.std.proofs.lemmas.Bool.{cases_Bool, cases_lt, lt-ltb}
use Rattle.std.proofs.lemmas.List.{get_or_append_left, get_or-append-add, length-append}
use Rattle.std.proofs.lemmas.List.Elements.{filter-append}
use Rattle.units.specs.Classes.{is_separator}
use Rattle.units.specs.Layout.{no_unit}
use Rattle.units.specs.Paragraphs.{EndsWithSeparator}
use Rattle.units.specs.Positions.{last_below, positions_from}
use Rattle.units.specs.declared.bracket.Unit.{Unit as BidiUnit}
use Rattle.printing.specs.Columns.{column_breaks_of, is_column_break, paragraph_start, separates_at, start_after}
use Rattle.printing.proofs.HeadBreaks.{following}
use Rattle.printing.proofs.HeadLines.{positions_split}

filter_same : (f g : ℕ → Bool) (s count n : ℕ) → s + count ≡ n → ((q : ℕ) → q < n → f q ≡ g q) →
    filter f (positions_from s count) ≡ filter g (positions_from s count)
filter_same f g s zero n e same = refl
filter_same f g s (suc count) n e same =
    ap (λ t. cond t (s ∷ filter f (positions_from (s + 1) count)) (filter f (positions_from (s + 1) count)))
    (same s (omega arith))
    ∙ ap (λ qs. cond (g s) (s ∷ qs) qs) (filter_same f g (s + 1) count n (omega arith) same)

filter_moved : (f g : ℕ → Bool) (n s count : ℕ) → ((q : ℕ) → f (n + q) ≡ g q) →
    filter f (positions_from (n + s) count) ≡ following n (filter g (positions_from s count))
filter_moved f g n s zero same = refl
filter_moved f g n s (suc count) same =
    let e : n + s + 1 ≡ n + (s + 1) = omega arith in
    let next : filter f (positions_from (n + s + 1) count) ≡ following n (filter g (positions_from (s + 1) count)) =
    ap (λ q. filter f (positions_from q count)) e ∙ filter_moved f g n (s + 1) count same in
    elim (cases_Bool (g s)) [
      | inl unchanged ↦ rw (same s, unchanged, next) refl
      | inr remaining ↦ rw (same s, remaining, next) refl
    ]

lt_moved : (n a b : ℕ) → nat_lt (n + a) (n + b) ≡ nat_lt a b
lt_moved n a b = elim (cases_lt a b) [
  | inl low ↦ lt-ltb (n + a) (n + b) (omega arith) ∙ sym (lt-ltb a b low)
  | inr high ↦ grind arith
]

ends_last : (us : List BidiUnit) → EndsWithSeparator us → (0 < length us) × (separates_at us (length us - 1) ≡ true)
ends_last [] h = absurd h
ends_last (u ∷ []) h = (omega arith, h)
ends_last (u ∷ v ∷ us) h =
    let e : length (u ∷ v ∷ us) - 1 ≡ suc (length (v ∷ us) - 1) = omega arith in
    (omega arith, ap (separates_at (u ∷ v ∷ us)) e ∙ (ends_last (v ∷ us) h).1)

module _ (us vs : List BidiUnit) where
  separates_in_first : (p : ℕ) → p < length us → separates_at (us ++ vs) p ≡ separates_at us p
  separates_in_first p low = ap (λ (u : BidiUnit). is_separator u.class) (get_or_append_left us vs no_unit p low)

  separates_in_second : (p : ℕ) → separates_at (us ++ vs) (length us + p) ≡ separates_at vs p
  separates_in_second p = ap (λ (u : BidiUnit). is_separator u.class) (get_or-append-add us vs p no_unit)

  last_in_first : (p : ℕ) → p ≤ length us → last_below (separates_at (us ++ vs)) p ≡ last_below (separates_at us) p
  last_in_first zero low = refl
  last_in_first (suc p) low = rw (separates_in_first p (omega arith), last_in_first p (omega arith)) refl

  start_right : EndsWithSeparator us → (p : ℕ) →
      paragraph_start (us ++ vs) (length us + p) ≡ length us + paragraph_start vs p
  start_right h zero =
      let last = ends_last us h in
      let some = last.0 in
      let e : length us + 0 ≡ suc (length us - 1) = omega arith in
      let t : separates_at (us ++ vs) (length us - 1) ≡ true = separates_in_first (length us - 1) (omega arith) ∙
      last.1 in
      ap (paragraph_start (us ++ vs)) e
      ∙ ap (λ b. start_after (cond b (Some (length us - 1)) (last_below (separates_at (us ++ vs)) (length us - 1)))) t
      ∙ omega arith
  start_right h (suc p) =
      let e : length us + suc p ≡ suc (length us + p) = omega arith in
      let next = start_right h p in
      elim (cases_Bool (separates_at vs p)) [
        | inl here ↦ ap (paragraph_start (us ++ vs)) e ∙ rw (separates_in_second p, here) (omega arith)
        | inr none ↦ ap (paragraph_start (us ++ vs)) e ∙ rw (separates_in_second p, none) next
      ]

  module _ (columns : ℕ) where
    break_in_first : (p : ℕ) → p < length us → is_column_break (us ++ vs) columns p ≡ is_column_break us columns p
    break_in_first p low = rw (separates_in_first p low, last_in_first p (omega arith)) refl

    break_in_second : EndsWithSeparator us → (p : ℕ) →
        is_column_break (us ++ vs) columns (length us + p) ≡ is_column_break vs columns p
    break_in_second h p =
        let s : ℕ = paragraph_start vs p in
        let e : length us + p - (length us + s) ≡ p - s = omega arith in
        ap (λ t. not t && (nat_lt (paragraph_start (us ++ vs) (length us + p)) (length us + p) &&
        ((length us + p - paragraph_start (us ++ vs) (length us + p)) % columns == 0))) (separates_in_second p)
        ∙ ap (λ q. not (separates_at vs p) && (nat_lt q (length us + p) && ((length us + p - q) % columns == 0)))
        (start_right h p)
        ∙ ap (λ t. not (separates_at vs p) && (t && ((length us + p - (length us + s)) % columns == 0)))
        (lt_moved (length us) s p)
        ∙ ap (λ q. not (separates_at vs p) && (nat_lt s p && (q % columns == 0))) e

    -- the breaks of the paragraph, and after them those of the rest
    pub columns_joined : EndsWithSeparator us → column_breaks_of (us ++ vs) columns ≡ column_breaks_of us columns ++
        following (length us) (column_breaks_of vs columns)
    columns_joined h =
        let test : ℕ → Bool = is_column_break (us ++ vs) columns in
        let z : length us + 0 ≡ length us = omega arith in
        let y : 0 + length us ≡ length us = omega arith in
        ap (λ k. filter test (positions_from 0 k)) (length-append us vs)
        ∙ ap (filter test) (positions_split 0 (length us) (length vs))
        ∙ filter-append test (positions_from 0 (length us)) (positions_from (0 + length us) (length vs))
        ∙ ap (λ qs. qs ++ filter test (positions_from (0 + length us) (length vs)))
        (filter_same test (is_column_break us columns) 0 (length us) (length us) y break_in_first)
        ∙ ap (λ k. filter (is_column_break us columns) (positions_from 0 (length us)) ++
        filter test (positions_from k (length vs))) (y ∙ sym z)
        ∙ ap (λ qs. filter (is_column_break us columns) (positions_from 0 (length us)) ++
        qs) (filter_moved test (is_column_break vs columns) (length us) 0 (length vs) (break_in_second h))

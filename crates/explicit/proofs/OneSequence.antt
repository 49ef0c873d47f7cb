-- If all positions that remain are at one level, the paragraph is one sequence (BD13, X10).
use Rattle.std.proofs.Common.{◌≡◌, Option, ℕ, zero, suc, ◌+◌, ◌-◌, ◌<◌, ◌≤◌, max, Bool, true, false, cond, not, Some, None, List, [], ◌∷◌, length, map, get_or, refl, ap, sym, ◌∙◌, arith, inl, inr}
use Rattle.std.specs.Prelude.{filter, is_some}
use Rattle.std.specs.Option.{option_map}
use Rattle.std.specs.List.{list_any}
use Rattle.std.proofs.lemmas.Bool.{cases_Bool, cases_lt, eq-eqb, ne_eqb, and_left, and_right, and_from, false≢true}
use Rattle.std.proofs.lemmas.List.{get_or_past, get_or-map, length-map}
use Rattle.std.proofs.lemmas.List.Folds.{list_any_at, list_any_none}
use Rattle.units.specs.Classes.{class_at, is_removed}
use Rattle.units.specs.Positions.{positions_from, positions_of, first_from, same_position}
use Rattle.units.specs.Runs.{LeveledView, SequenceView, leveled_of, size_of, level_of, remains, next_remaining, successor_by, successor, begins_sequence, followed, sequence_from, last_in, level_or_base, direction_of, last_remaining, sequence_at, sequences_of}
use Rattle.units.specs.declared.class.Class.{Class}
use Rattle.explicit.specs.Flat.{IsFlat, is_remaining, remaining_of, level_sequence, level_sequences, flat_sequences}
use Rattle.units.proofs.Options.{is_some_false}
use Rattle.units.proofs.Positions.{first_from_is, first_from_some, length-positions_from, get_or-positions_from}
use Rattle.std.proofs.lemmas.Simd.{map-map}
use Rattle.explicit.proofs.Listed.{filter_passed, filter_dropped, filter_alike}
use Rattle.explicit.proofs.Searches.{first_from_here, first_from_on}
use Rattle.explicit.proofs.FlatParagraph.{explicit_of-flat, leveled_class}

-- all positions that remain are at the paragraph's level
pub record IsUniform (t : LeveledView) (para : ℕ) : Type 0 where
  pub base : t.base ≡ para
  pub level : (p : ℕ) → remains t p ≡ true → level_of t p ≡ Some para

-- a later position, if there is one, is not this position
later_apart : (o : Option ℕ) (p : ℕ) → ((r : ℕ) → o ≡ Some r → p < r) → same_position o (Some p) ≡ false
later_apart None p h = refl
later_apart (Some r) p h = let later : p < r = h r refl in ne_eqb r p (λ e. omega arith)

module _ (t : LeveledView) (para : ℕ) (u : IsUniform t para) where
  -- BD13: the next remaining position
  successor_to : (p : ℕ) → remains t p ≡ true → (o : Option ℕ) → ((q : ℕ) → o ≡ Some q → remains t q ≡ true) →
      successor_by t p o ≡ o
  successor_to p here None h = refl
  successor_to p here (Some q) h = let same = eq-eqb para para refl in
      rw (u.level p here, u.level q (h q refl), same) refl

  successor_is : (p : ℕ) → remains t p ≡ true → successor t p ≡ next_remaining t p
  successor_is p here = grind (arith, successor_to, first_from_some)

  successor_none : (p : ℕ) → remains t p ≡ false → successor t p ≡ None
  successor_none p gone = ap (λ b. cond b (successor_by t p (next_remaining t p)) None) gone

  -- the positions of the sequence
  followed_remaining : (count start n : ℕ) → start + count ≡ size_of t → count ≤ n →
      followed (successor t) n (first_from (remains t) start count) ≡ filter (remains t) (positions_from start count)
  followed_remaining zero start zero e le = refl
  followed_remaining zero start (suc n) e le = refl
  followed_remaining (suc count) start zero e le = absurd (omega arith)
  followed_remaining (suc count) start (suc n) e le =
      grind (
        arith,
        first_from_here,
        successor_is,
        filter_passed,
        first_from_on,
        filter_dropped,
        followed_remaining count (start + 1) n,
        followed_remaining count (start + 1) (suc n),
      )

  -- a sequence begins only at the first remaining position
  abbrev follows_one : ℕ → Bool
  follows_one p = list_any (λ q. same_position (successor t q) (Some p)) (positions_of t.levels)

  follows_none : (p : ℕ) → ((q : ℕ) → q < p → remains t q ≡ false) → (q : ℕ) →
      same_position (successor t q) (Some p) ≡ false
  follows_none p before q = grind (arith, false≢true, successor_is, later_apart, first_from_some, successor_none)

  begins_here : (p : ℕ) → remains t p ≡ true → ((q : ℕ) → q < p → remains t q ≡ false) → begins_sequence t p ≡ true
  begins_here p here before = grind (arith, list_any_none, follows_none, and_from)

  begins_not : (p q : ℕ) → q < size_of t → successor t q ≡ Some p → begins_sequence t p ≡ false
  begins_not p q lt e =
      let within : q < length (positions_of t.levels) = omega (arith, length-positions_from 0 (size_of t)) in
      let represents : get_or (positions_of t.levels) q 0 ≡ q = get_or-positions_from 0 (size_of t) q 0 lt ∙
      omega arith in
      let follows : same_position (successor t q) (Some p) ≡ true = ap (λ o. same_position o (Some p)) e ∙
      eq-eqb p p refl in
      let some : follows_one p ≡ true =
      list_any_at (λ r. same_position (successor t r) (Some p)) (positions_of t.levels) q 0 within
      (ap (λ r. same_position (successor t r) (Some p)) represents ∙ follows) in
      and_right (remains t p) (not (follows_one p)) (ap not some)

  begins_gone : (p : ℕ) → remains t p ≡ false → begins_sequence t p ≡ false
  begins_gone p gone = and_left (remains t p) (not (follows_one p)) gone

  -- after a remaining position no sequence begins
  none_later : (count start q : ℕ) → start + count ≡ size_of t → q < start → remains t q ≡ true →
      ((r : ℕ) → q < r → r < start → remains t r ≡ false) → filter (begins_sequence t) (positions_from start count) ≡ []
  none_later zero start q e lt last between = refl
  none_later (suc count) start q e lt last between =
      elim (cases_Bool (remains t start)) [
        | inl here ↦
            let next : successor t q ≡ Some start =
            successor_is q last ∙
            first_from_is (remains t) (q + 1) (size_of t - (q + 1)) start (omega arith) (omega arith) here
            (λ r ge below. between r (omega arith) below) in
            filter_dropped (begins_sequence t) start (positions_from (start + 1) count)
            (begins_not start q (omega arith) next)
            ∙ none_later count (start + 1) start (omega arith) (omega arith) here (λ r above below.
            absurd (omega arith))
        | inr gone ↦
            filter_dropped (begins_sequence t) start (positions_from (start + 1) count) (begins_gone start gone)
            ∙ none_later count (start + 1) q (omega arith) (omega arith) last (λ r above below.
            elim (cases_lt r start) [
              | inl less ↦ between r above less
              | inr more ↦ let same : r ≡ start = omega arith in
                  ap (remains t) same ∙ gone
            ])
      ]

  -- X10: the levels on both sides are the paragraph's
  level_here : (o : Option ℕ) → level_or_base t o ≡ para
  level_here None = u.base
  level_here (Some p) = grind (arith, is_some_false)

  max_same : (n : ℕ) → max n n ≡ n
  max_same n = omega arith

  direction_here : (a b : Option ℕ) → direction_of (max (level_or_base t a) (level_or_base t b)) ≡ direction_of para
  direction_here a b =
      ap (λ l. direction_of (max l (level_or_base t b))) (level_here a) ∙
      ap (λ l. direction_of (max para l)) (level_here b) ∙ ap direction_of (max_same para)

  abbrev sequence_of : List ℕ → ℕ → Class → Class → SequenceView
  sequence_of ps level sos eos = record { positions = ps; level = level; sos = sos; eos = eos; extent = size_of t }

  same_sequence : (ps qs : List ℕ) (l m : ℕ) (s z e f : Class) → ps ≡ qs → l ≡ m → s ≡ z → e ≡ f →
      sequence_of ps l s e ≡ sequence_of qs m z f
  same_sequence ps qs l m s z e f a b c d =
      ap (λ v. sequence_of v l s e) a ∙ ap (λ v. sequence_of qs v s e) b ∙ ap (λ v. sequence_of qs m v e) c ∙
      ap (λ v. sequence_of qs m z v) d

  sequence_is : (count start : ℕ) → start + count ≡ size_of t → remains t start ≡ true →
      sequence_at t start ≡ level_sequence para (size_of t) (filter (remains t) (positions_from start count))
  sequence_is zero start e here =
      absurd (false≢true (sym (ap is_some (get_or_past t.levels start None (omega arith))) ∙ here))
  sequence_is (suc count) start e here =
      let first : sequence_from t start ≡ filter (remains t) (positions_from start (suc count)) =
      ap (followed (successor t) (size_of t)) (sym (first_from_here (remains t) start count here)) ∙
      followed_remaining (suc count) start (size_of t) e (omega arith) in
      same_sequence _ _ _ _ _ _ _ _ first (level_here (Some start))
      (direction_here (Some start) (last_remaining t start))
      (direction_here (Some (last_in (sequence_from t start) start)) _)

  first_onward : (count start : ℕ) → start + count ≡ size_of t → ((q : ℕ) → q < start → remains t q ≡ false) →
      map (sequence_at t) (filter (begins_sequence t) (positions_from start count)) ≡
      level_sequences para (size_of t) (filter (remains t) (positions_from start count))
  first_onward zero start e before = refl
  first_onward (suc count) start e before =
      elim (cases_Bool (remains t start)) [
        | inl here ↦
            ap (map (sequence_at t)) (filter_passed (begins_sequence t) start (positions_from (start + 1) count)
            (begins_here start here before)
            ∙ ap (λ ps. start ∷ ps) (none_later count (start + 1) start (omega arith) (omega arith) here
            (λ r above below. absurd (omega arith))))
            ∙ ap (λ s. s ∷ []) (sequence_is (suc count) start e here
            ∙ ap (level_sequence para (size_of t))
            (filter_passed (remains t) start (positions_from (start + 1) count) here))
            ∙ ap (level_sequences para (size_of t))
            (sym (filter_passed (remains t) start (positions_from (start + 1) count) here))
        | inr gone ↦
            ap (map (sequence_at t)) (filter_dropped (begins_sequence t) start (positions_from (start + 1) count)
            (begins_gone start gone))
            ∙ first_onward count (start + 1) (omega arith) (λ q lt.
            elim (cases_lt q start) [
              | inl less ↦ before q less
              | inr more ↦ let same : q ≡ start = omega arith in
                  ap (remains t) same ∙ gone
            ])
            ∙ ap (level_sequences para (size_of t))
            (sym (filter_dropped (remains t) start (positions_from (start + 1) count) gone))
      ]

  pub sequences_of-uniform : sequences_of t ≡
      level_sequences para (size_of t) (filter (remains t) (positions_of t.levels))
  sequences_of-uniform = first_onward (size_of t) 0 (omega arith) (λ q lt. absurd (omega arith))

-- the levels after X1 to X9 in a flat paragraph
abbrev level_unless_removed : ℕ → Class → Option ℕ
level_unless_removed para c = cond (is_removed c) None (Some para)

level_of_leveled : (para : ℕ) (c : Class) →
    option_map (λ (x : ℕ × Class). x.0) (leveled_class para c) ≡ level_unless_removed para c
level_of_leveled para c = elim (cases_Bool (is_removed c)) [ inl gone ↦ rw gone refl | inr retained ↦ rw retained refl ]

level_unless_removed_at : (para : ℕ) (c : Class) → is_some (level_unless_removed para c) ≡ is_remaining c
level_unless_removed_at para c = elim (cases_Bool (is_removed c)) [
  | inl gone ↦ rw gone refl
  | inr retained ↦
      rw retained refl
]

level_of_remaining : (para : ℕ) (c : Class) → is_some (level_unless_removed para c) ≡ true →
    level_unless_removed para c ≡ Some para
level_of_remaining para c h = elim (cases_Bool (is_removed c)) [
  | inl gone ↦
      absurd (false≢true (sym (ap (λ b. is_some (cond b None (Some para))) gone) ∙ h))
  | inr retained ↦ rw retained refl
]

module _ (depth : ℕ) (cs : List Class) (para : ℕ) (flat : IsFlat cs) where
  abbrev t : LeveledView
  t = leveled_of depth cs para

  levels_are : t.levels ≡ map (λ c. option_map (λ (x : ℕ × Class). x.0) (leveled_class para c)) cs
  levels_are = grind (arith, explicit_of-flat, map-map)

  pub size-flat : size_of t ≡ length cs
  size-flat = ap length levels_are ∙ length-map cs (λ c. option_map (λ (x : ℕ × Class). x.0) (leveled_class para c))

  pub level-flat : (p : ℕ) → p < length cs → level_of t p ≡ level_unless_removed para (class_at cs p)
  level-flat p lt = grind (arith, levels_are, get_or-map, level_of_leveled)

  pub remains-flat : (p : ℕ) → p < length cs → remains t p ≡ is_remaining (class_at cs p)
  remains-flat p lt = ap is_some (level-flat p lt) ∙ level_unless_removed_at para (class_at cs p)

  pub uniform-flat : IsUniform t para
  uniform-flat = grind (arith, level-flat, level_of_remaining, false≢true, get_or_past, size-flat)

  pub remaining-flat : filter (remains t) (positions_of t.levels) ≡ remaining_of cs
  remaining-flat = grind (arith, size-flat, filter_alike, remains-flat)

  pub sequences_of-flat : sequences_of t ≡ flat_sequences para cs
  sequences_of-flat = grind (arith, sequences_of-uniform, uniform-flat, size-flat, remaining-flat)

-- The breaks up to a position, and that they rise inside the text.
use Rattle.std.proofs.Common.{rules, ◌≡◌, ℕ, zero, suc, ◌+◌, ◌-◌, ◌<◌, ◌≤◌, Bool, true, false, List, [], ◌∷◌, ◌++◌, Result, Ok, Err, IsOk, MatchResult, length, refl, sym, ap, subst, ◌∙◌, arith, slice_index}
use Rattle.std.specs.Prelude.{filter}
use Rattle.std.proofs.lemmas.List.Elements.{filter-append}
use Rattle.units.specs.Positions.{positions_from}
use Rattle.units.specs.declared.bracket.Unit.{Unit as BidiUnit}
use Rattle.lines.specs.declared.breaks.BreakFault.{BreakFault}
use Rattle.lines.specs.declared.breaks.BreakFault.TheVariants.{OutOfRange, NotRising}
use Rattle.lines.specs.LineBreaks.{AreBreaks, IsFirstBreakFault, IsAboveTheOneBefore}
use Rattle.printing.specs.Columns.{is_column_break, separates_at, paragraph_start}

pub one_more_position : (s n : ℕ) → positions_from s (suc n) ≡ positions_from s n ++ ((s + n) ∷ [])
one_more_position s zero = ap (λ k. k ∷ []) (omega arith)
one_more_position s (suc n) =
    ap (λ ps. s ∷ ps) (one_more_position (s + 1) n ∙ ap (λ k. positions_from (s + 1) n ++ (k ∷ [])) (omega arith))

-- the positions below n that pass the test
abbrev pub passing : (ℕ → Bool) → ℕ → List ℕ
passing test n = filter test (positions_from 0 n)

passing-more : (test : ℕ → Bool) (n : ℕ) → passing test (n + 1) ≡ passing test n ++ filter test (n ∷ [])
passing-more test n =
    let next : suc n ≡ n + 1 = omega arith in
    let here : 0 + n ≡ n = omega arith in
    ap (λ k. passing test k) (sym next) ∙
    ap (filter test) (one_more_position 0 n ∙ ap (λ k. positions_from 0 n ++ (k ∷ [])) here)
    ∙ filter-append test (positions_from 0 n) (n ∷ [])

pub passing-unchanged : (test : ℕ → Bool) (n : ℕ) (xs : List ℕ) → test n ≡ false → xs ≡ passing test n →
    xs ≡ passing test (n + 1)
passing-unchanged test n xs no_break e = e ∙ sym (passing-more test n ∙ rw no_break (search rules))

pub passing-added : (test : ℕ → Bool) (n : ℕ) (xs : List ℕ) → test n ≡ true → xs ≡ passing test n →
    xs ++ (n ∷ []) ≡ passing test (n + 1)
passing-added test n xs a_break e = rw e (sym (passing-more test n ∙ rw a_break refl))

-- each element is at least s, below e, and above the one before
record RisesIn (xs : List ℕ) (s e : ℕ) : Type 0 where
  pub from : (i : ℕ) → i < length xs → s ≤ slice_index xs i
  pub below : (i : ℕ) → i < length xs → slice_index xs i < e
  pub above : (i : ℕ) → i + 1 < length xs → slice_index xs i < slice_index xs (i + 1)

rises-none : (s e : ℕ) → RisesIn [] s e
rises-none s e = record {
  from = λ i h. absurd (omega arith);
  below = λ i h. absurd (omega arith);
  above =
      λ i h. absurd (omega arith);
}

from-more : (x : ℕ) (xs : List ℕ) (s : ℕ) → s ≤ x → ((i : ℕ) → i < length xs → x + 1 ≤ slice_index xs i) → (i : ℕ) →
    i < length (x ∷ xs) → s ≤ slice_index (x ∷ xs) i
from-more x xs s h later zero k = h
from-more x xs s h later (suc i) k = let l : x + 1 ≤ slice_index xs i = later i (omega arith) in omega arith

below-more : (x : ℕ) (xs : List ℕ) (e : ℕ) → x < e → ((i : ℕ) → i < length xs → slice_index xs i < e) → (i : ℕ) →
    i < length (x ∷ xs) → slice_index (x ∷ xs) i < e
below-more x xs e h later zero k = h
below-more x xs e h later (suc i) k = later i (omega arith)

above-more : (x : ℕ) (xs : List ℕ) → ((i : ℕ) → i < length xs → x + 1 ≤ slice_index xs i) →
    ((i : ℕ) → i + 1 < length xs → slice_index xs i < slice_index xs (i + 1))
    → (i : ℕ) → i + 1 < length (x ∷ xs) → slice_index (x ∷ xs) i < slice_index (x ∷ xs) (i + 1)
above-more x xs from above zero k = let l : x + 1 ≤ slice_index xs 0 = from 0 (omega arith) in omega arith
above-more x xs from above (suc i) k = grind (arith, slice_index)

rises-more : (s e : ℕ) (xs : List ℕ) → s < e → RisesIn xs (s + 1) e → RisesIn (s ∷ xs) s e
rises-more s e xs h r =
    record {
      from = from-more s xs s (omega arith) r.from;
      below = below-more s xs e h r.below;
      above =
          above-more s xs r.from r.above;
    }

rises-later : (s e : ℕ) (xs : List ℕ) → RisesIn xs (s + 1) e → RisesIn xs s e
rises-later s e xs r = record {
  from = λ i h. (let l : s + 1 ≤ slice_index xs i = r.from i h in omega arith);
  below =
      r.below;
  above = r.above;
}

filter-rises : (test : ℕ → Bool) (s n e : ℕ) → s + n ≤ e → RisesIn (filter test (positions_from s n)) s e
filter-rises test s zero e h = rises-none s e
filter-rises test s (suc n) e h = grind (arith, rises-more, rises-later, filter-rises test (s + 1) n e)

-- if the first position does not pass, those that do are from 1 on
passing-rises : (test : ℕ → Bool) (n : ℕ) → test 0 ≡ false → RisesIn (passing test n) 1 n
passing-rises test zero h = rises-none 1 0
passing-rises test (suc n) h = rw h (filter-rises test 1 n (suc n) (omega arith))

above-before : (xs : List ℕ) → ((i : ℕ) → i + 1 < length xs → slice_index xs i < slice_index xs (i + 1)) → (i : ℕ) →
    i < length xs → IsAboveTheOneBefore xs i
above-before xs above zero h positive = absurd (omega arith)
above-before xs above (suc i) h positive = grind (arith, slice_index)

are-breaks : (xs : List ℕ) (n : ℕ) → RisesIn xs 1 n → AreBreaks xs n
are-breaks xs n r = grind (arith, above-before)

pub no_break_at_first : (text : List BidiUnit) (columns : ℕ) → is_column_break text columns 0 ≡ false
no_break_at_first text columns = search rules

-- the positions that pass are breaks of a text of length n
pub breaks-of-columns : (text : List BidiUnit) (columns n : ℕ) → AreBreaks (passing (is_column_break text columns) n) n
breaks-of-columns text columns n =
    are-breaks _ n (passing-rises (is_column_break text columns) n (no_break_at_first text columns))

no_fault : (at : List ℕ) (len : ℕ) (fault : BreakFault) → AreBreaks at len → IsFirstBreakFault at len fault → ⊥
no_fault at len (OutOfRange i) breaks h = grind (arith, slice_index)
no_fault at len (NotRising i) breaks h = let above : slice_index at (i - 1) < slice_index at i =
    breaks.rising i h.0 h.3 in let below = h.4 in omega arith

-- breaks that meet `AreBreaks` are never rejected
pub breaks_are_taken : {X : Type 0} (P : X → Type 0) (at : List ℕ) (len : ℕ) (outcome : Result X BreakFault) →
    AreBreaks at len
    → MatchResult outcome P (IsFirstBreakFault at len) → IsOk outcome
breaks_are_taken P at len (Ok taken) breaks h = refl
breaks_are_taken P at len (Err fault) breaks h = absurd (no_fault at len fault breaks h)

-- the paragraph's start, after one more position
pub start_after_separator : (text : List BidiUnit) (p : ℕ) → separates_at text p ≡ true →
    p + 1 ≡ paragraph_start text (p + 1)
start_after_separator text p h = let next : suc p ≡ p + 1 = omega arith in
    subst (λ k. p + 1 ≡ paragraph_start text k) next (rw h refl)

pub start_unchanged : (text : List BidiUnit) (p s : ℕ) → separates_at text p ≡ false → s ≡ paragraph_start text p →
    s ≡ paragraph_start text (p + 1)
start_unchanged text p s h e = let next : suc p ≡ p + 1 = omega arith in
    subst (λ k. s ≡ paragraph_start text k) next (rw h e)

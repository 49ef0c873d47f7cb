-- If no bracket can be open, the first opener is the stop, and there is no pair.
use Rattle.std.proofs.Common.{◌≡◌, ℕ, zero, suc, ◌<◌, Bool, true, false, List, [], length, refl, sym, ap, ◌∙◌, arith, eqb, inl, inr}
use Rattle.std.proofs.lemmas.Bool.{and_from, and_parts, both_ways, eq-eqb, false_from_ne_true}
use Rattle.units.specs.Brackets.{bracket_at, is_open, is_open_at, is_uncovered, pairs_before, open_before, has_no_room, stop_of, bracket_pairs_of}
use Rattle.units.specs.declared.bracket.Bracket.{Bracket}
use Rattle.units.proofs.Positions.{first_from_is, first_from_nowhere}
use Rattle.resolve.specs.PairTheorems.{StopsAtFirstOpener}
use Rattle.resolve.proofs.Positions.{first_from-cases, length-passing_below-less}
use Rattle.resolve.proofs.BracketSteps.{opener_at, open_before-below, pairs_before-none}
use Rattle.resolve.proofs.CountingPairs.{opener_cases}
use Rattle.resolve.proofs.Depth.{few_open}
use Rattle.resolve.proofs.Nesting.{ends_somewhere, matched}

-- there is no pair before a stop
none_paired : (bs : List Bracket) (p : ℕ) → ((j : ℕ) → j < p → has_no_room 0 bs j ≡ false) → pairs_before bs p ≡ []
none_paired bs zero going = refl
none_paired bs (suc p) going =
    elim (opener_cases (opener_at bs p)) [
      | inl none ↦ pairs_before-none bs p none ∙ none_paired bs p (λ j lt. going j (omega arith))
      | inr w ↦
          (let m = matched bs p w.0 w.1 in
          let opens : is_open_at bs (pairs_before bs p) w.0 ≡ true =
          and_from (is_open (bracket_at bs w.0)) (is_uncovered (pairs_before bs p) w.0) m.opens m.uncovered in
          let few = few_open 0 bs p (λ j lt. going j (omega arith)) in
          let below = ap length (open_before-below bs p) in
          absurd (omega (
            arith,
            few,
            below,
            length-passing_below-less (is_open_at bs (pairs_before bs p)) w.0 p m.below opens,
          )))
    ]

pub no_pair_counts : (bs : List Bracket) → bracket_pairs_of 0 bs ≡ []
no_pair_counts bs =
    let w = ends_somewhere 0 bs in
    w.1.pairs ∙ none_paired bs w.0 w.1.going

-- a bracket at which nothing stops is no opener
shut_at : (bs : List Bracket) (p : ℕ) → ((j : ℕ) → j < p → has_no_room 0 bs j ≡ false) → has_no_room 0 bs p ≡ false →
    is_open (bracket_at bs p) ≡ false
shut_at bs p going here =
    let none : length (open_before bs p) ≡ 0 = omega (arith, few_open 0 bs p going) in
    false_from_ne_true (is_open (bracket_at bs p)) (λ opens.
    both_ways (has_no_room 0 bs p) here (and_from (is_open (bracket_at bs p)) (eqb (length (open_before bs p)) 0) opens
    (eq-eqb (length (open_before bs p)) 0 none)))

pub stops_at_first_opener : (bs : List Bracket) → StopsAtFirstOpener bs
unfolding stop_of
stops_at_first_opener bs =
    let opens : ℕ → Bool = λ p. is_open (bracket_at bs p) in
    elim (first_from-cases (has_no_room 0 bs) 0 (length bs)) [
      | inl none ↦
          (let going : (j : ℕ) → j < length bs → has_no_room 0 bs j ≡ false =
          λ j lt. none j (omega arith) (omega arith) in
          first_from_nowhere (has_no_room 0 bs) 0 (length bs) none
          ∙ sym (first_from_nowhere opens 0 (length bs) (λ p ge lt.
          shut_at bs p (λ j below. going j (omega arith)) (going p (omega arith)))))
      | inr w ↦
          (let going : (j : ℕ) → j < w.0 → has_no_room 0 bs j ≡ false = λ j lt. w.4 j (omega arith) lt in
          let here = and_parts (is_open (bracket_at bs w.0)) (eqb (length (open_before bs w.0)) 0) w.3 in
          first_from_is (has_no_room 0 bs) 0 (length bs) w.0 w.1 w.2 w.3 w.4
          ∙ sym (first_from_is opens 0 (length bs) w.0 w.1 w.2 here.0 (λ p ge lt.
          shut_at bs p (λ j below. going j (omega arith)) (going p lt))))
    ]

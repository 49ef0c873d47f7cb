-- The columns of a paragraph contain no positions but its own.
use Rattle.std.specs.Prelude.{Option, Some, None, ℕ, Bool, ◌==◌, ◌-◌, ◌<◌, ◌≤◌, ◌≡◌, List, [], ◌∷◌, length, map, find, IfSome, slice_index, slice_index_or}
use Rattle.std.specs.List.{All, flat_map}
use Rattle.std.specs.Option.{option_map}
use Rattle.std.proofs.Common.{arith, ap, sym, ◌∙◌, subst, inl, inr}
use Rattle.std.proofs.lemmas.Bool.{cases_Bool, cond-true, cond-false}
use Rattle.std.proofs.lemmas.List.{length-map, get_or-map}
use Rattle.std.proofs.lemmas.List.Elements.{All-append, All-filter, All-from_get_or, All-get_or, All-head, All-map, All-nil, All-tail, All-weaker}
use Rattle.units.specs.Brackets.{closer_of}
use Rattle.units.specs.Classes.{classes_of}
use Rattle.units.specs.Isolates.{first_strong}
use Rattle.units.specs.Layout.{layout_of, lines_cut_at, value_beside}
use Rattle.units.specs.Limits.{standard}
use Rattle.units.specs.Paragraphs.{SeparatorOnlyLast}
use Rattle.units.specs.Positions.{first_from, positions_from, positions_of}
use Rattle.units.specs.Reordering.{begins_line, cuts_of}
use Rattle.units.specs.Runs.{SequenceView}
use Rattle.units.specs.declared.bracket.Unit.{Unit as BidiUnit}
use Rattle.units.specs.declared.class.Class.{Class}
use Rattle.units.specs.declared.level.Direction.{Direction}
use Rattle.units.proofs.Positions.{first_from_some, length-positions_from, get_or-positions_from}
use Rattle.resolve.specs.Pairs.{closer_in}
use Rattle.paragraph.proofs.AllSequences.{sequences_are_apart}
use Rattle.lines.specs.Layouts.{no_line}
use Rattle.lines.proofs.Theorem.{line_order-places}
use Rattle.lines.proofs.Lengths.{length-levels}
use Rattle.lines.proofs.RemovedLevels.{para_level-low}
use Rattle.rule_columns.specs.Columns.{columns_of}
use Rattle.rule_columns.specs.Inside.{NamesInside}
use Rattle.rule_columns.specs.Passes.{closers_of, pairs_in}
use Rattle.rule_columns.proofs.EachPair.{LiesBelow, pairs_lie, placed_pair}

-- the value for a position has a property that all values have
value_holds : (P : ℕ → Type 0) (xs : List (ℕ × ℕ)) (p : ℕ) → All (λ x. P x.1) xs → IfSome (value_beside xs p) P
value_holds P [] p all = tt
value_holds P (x ∷ xs) p all =
    let Q : Option (ℕ × ℕ) → Type 0 = λ found. IfSome (option_map (λ (y : ℕ × ℕ). y.1) found) P in
    elim (cases_Bool (x.0 == p)) [
      | inl same ↦ subst Q (sym (cond-true (x.0 == p) (Some x) (find (λ (y : ℕ × ℕ). y.0 == p) xs) same))
          (All-head (λ (y : ℕ × ℕ). P y.1) x xs all)
      | inr other ↦
          subst Q (sym (cond-false (x.0 == p) (Some x) (find (λ (y : ℕ × ℕ). y.0 == p) xs) other))
          (value_holds P xs p (All-tail (λ (y : ℕ × ℕ). P y.1) x xs all))
    ]

-- each closing bracket is in its paragraph
closers_lie : (us : List BidiUnit) (weak : List Class) (extent : ℕ) (all : List SequenceView) →
    All (λ s. All (λ q. q < extent) s.positions) all →
    All (λ x. x.1 < extent) (flat_map (pairs_in us weak) all)
closers_lie us weak extent [] within = All-nil (λ (x : ℕ × ℕ). x.1 < extent)
closers_lie us weak extent (s ∷ all) within =
    let P : ℕ × ℕ → Type 0 = λ x. x.1 < extent in
    let Q : SequenceView → Type 0 = λ s. All (λ q. q < extent) s.positions in
    let ps : List ℕ = s.positions in
    let here : All (λ q. q < extent) ps = All-head Q s all within in
    All-append P (pairs_in us weak s) (flat_map (pairs_in us weak) all)
    (All-map P (placed_pair ps) _ (All-weaker (LiesBelow (length ps)) (λ (pair : ℕ × ℕ). P (placed_pair ps pair))
    (λ pair l. All-get_or (λ q. q < extent) ps pair.1 0 l.1 here) _ (pairs_lie us weak s)))
    (closers_lie us weak extent all (All-tail Q s all within))

closer_inside : (us : List BidiUnit) (weak : List Class) (all : List SequenceView) →
    All (λ s. All (λ q. q < length us) s.positions) all →
    (p : ℕ) → p < length us → IfSome (closer_in (closers_of all us weak) p) (λ q. q < length us)
unfolding closers_of closer_of
closer_inside us weak all within p h =
    let found : List (ℕ × ℕ) = flat_map (pairs_in us weak) all in
    let f : ℕ → Option ℕ = closer_of found in
    let m : length (positions_of us) ≡ length us = length-positions_from 0 (length us) in
    let at : slice_index (positions_of us) p ≡ p = omega (arith, get_or-positions_from 0 (length us) p 0 h) in
    let is : closer_in (map f (positions_of us)) p ≡ f p = get_or-map f (positions_of us) p 0 None (omega arith) ∙
    ap f at in
    let P : Option ℕ → Type 0 = λ o. IfSome o (λ q. q < length us) in
    subst P (sym is) (value_holds (λ q. q < length us) found p (closers_lie us weak (length us) all within))

-- the first position that passes a test is among those that are tested
first_inside : (test : ℕ → Bool) (n : ℕ) → IfSome (first_from test 0 n) (λ p. p < n)
first_inside test n = grind (arith, first_from_some)

strong_inside : (us : List BidiUnit) → IfSome (first_strong (classes_of us) None) (λ p. p < length us)
unfolding first_strong
strong_inside us = grind (arith, length-map, first_inside)

-- the order of the first line has only positions of the text
order_inside : (levels : List (Option ℕ)) (cuts : List ℕ) → All (λ c. c ≤ length levels) cuts →
    All (λ p. p < length levels) (slice_index_or (lines_cut_at levels cuts) 0 no_line).order
order_inside [] cuts within = All-nil (λ p. p < 0)
order_inside (level ∷ levels) [] within =
    line_order-places (level ∷ levels) 0 (length (level ∷ levels)) (omega arith) (omega arith)
order_inside (level ∷ levels) (cut ∷ cuts) within =
    line_order-places (level ∷ levels) 0 cut (omega arith) (All-head (λ c. c ≤ length (level ∷ levels)) cut cuts within)

cuts_inside : (own : List Class) (size : ℕ) → length own ≡ size → All (λ c. c ≤ size) (cuts_of own [])
cuts_inside own size n =
    All-filter (begins_line own []) (λ c. c ≤ size) (positions_from 1 (length own - 1))
    (All-from_get_or (λ c. c ≤ size) (positions_from 1 (length own - 1)) 0
    (λ i h.
    let m : length (positions_from 1 (length own - 1)) ≡ length own - 1 = length-positions_from 1 (length own - 1) in
    omega (arith, get_or-positions_from 1 (length own - 1) i 0 (omega arith))))

line_inside : (us : List BidiUnit) (direction : Direction) →
    All (λ p. p < length us) (slice_index_or (layout_of standard us direction []).lines 0 no_line).order
unfolding layout_of
line_inside us direction = grind (arith, length-levels, length-map, order_inside, cuts_inside)

pub columns_inside : (us : List BidiUnit) (direction : Direction) → SeparatorOnlyLast us →
    NamesInside (columns_of us direction) (length us)
unfolding columns_of
columns_inside us direction only =
    grind (arith, sequences_are_apart, para_level-low, strong_inside, closer_inside, line_inside)

-- The bracket pairs (BD16) and N0, sequence by sequence.
use Rattle.std.specs.Prelude.{Option, Some, None, ℕ, zero, suc, Bool, true, false, ◌&&◌, ◌==◌, ◌+◌, ◌<◌, ◌≤◌, ◌≡◌, List, [], ◌∷◌, length, map, take, Contains, slice_get, slice_index, refl}
use Rattle.std.specs.List.{All, flat_map, find}
use Rattle.std.specs.Option.{option_map}
use Rattle.std.proofs.Common.{arith, ap, sym, ◌∙◌, subst, inl, inr}
use Rattle.std.proofs.lemmas.Bool.{cases_Bool, cases_lt, cond-true, cond-false, eqb-true, eq-eqb, ne_eqb}
use Rattle.std.proofs.lemmas.List.{length-map, get_or-map, ext_get_or, take_all}
use Rattle.std.proofs.lemmas.List.Elements.{All-append, All-cons, All-head, All-nil, All-tail, All-weaker}
use Rattle.units.specs.Brackets.{bracket_pairs_of, closer_of, ended_with, pairs_before, is_open_at, closes, bracket_at}
use Rattle.units.specs.Classes.{classes_at}
use Rattle.units.specs.Layout.{brackets_of, value_beside}
use Rattle.units.specs.Limits.{standard}
use Rattle.units.specs.Positions.{last_below, positions_of}
use Rattle.units.specs.Runs.{SequenceView}
use Rattle.units.specs.declared.bracket.Bracket.{Bracket}
use Rattle.units.specs.declared.bracket.Unit.{Unit as BidiUnit}
use Rattle.units.specs.declared.class.Class.{Class}
use Rattle.units.proofs.Positions.{last_below_some, length-positions_from, get_or-positions_from}
use Rattle.sequences.specs.Once.{times}
use Rattle.resolve.specs.Pairs.{HoldsPairsOf, KeepsOtherClosers, closer_in}
use Rattle.resolve.proofs.Gathered.{contains_index}
use Rattle.resolve.proofs.Nesting.{ends_somewhere}
use Rattle.resolve.proofs.Scan.{length-brackets_at}
use Rattle.paragraph.specs.Covering.{AreDisjoint}
use Rattle.paragraph.proofs.Covering.{times_some, within_extent}
use Rattle.rule_columns.specs.Passes.{closers_of, pairs_in}
use Rattle.rule_columns.proofs.Results.{SaysOwn, value_here, value_elsewhere, index_in, IsDistinct, distinct_in}

-- both indices of a pair are below this one
abbrev pub LiesBelow : ℕ → ℕ × ℕ → Type 0
LiesBelow size pair = (pair.0 < size) × (pair.1 < size)

-- if a pair ends at p, its first index is below p
ended_below : (p : ℕ) (found : Option ℕ) → ((o : ℕ) → found ≡ Some o → o < p) →
    All (LiesBelow (suc p)) (ended_with p found)
ended_below p None below = All-nil (LiesBelow (suc p))
ended_below p (Some o) below = All-cons (LiesBelow (suc p)) (o, p) [] (
  omega (arith, below o refl),
  omega arith,
) (All-nil (LiesBelow (suc p)))

all_below : (bs : List Bracket) (p : ℕ) → All (LiesBelow p) (pairs_before bs p)
all_below bs zero = All-nil (LiesBelow 0)
all_below bs (suc p) =
    let earlier = pairs_before bs p in
    let test : ℕ → Bool = λ o. is_open_at bs earlier o && closes (bracket_at bs o) (bracket_at bs p) in
    All-append (LiesBelow (suc p)) earlier (ended_with p (last_below test p))
    (All-weaker (LiesBelow p) (LiesBelow (suc p)) (λ pair l. (omega (arith, l.0), omega (arith, l.1))) earlier
    (all_below bs p))
    (ended_below p (last_below test p) (λ o e. (last_below_some test p o e).within))

-- each pair that counts is within the sequence
lie_inside : (most_open : ℕ) (bs : List Bracket) → All (LiesBelow (length bs)) (bracket_pairs_of most_open bs)
lie_inside most_open bs =
    let w = ends_somewhere most_open bs in
    let low : w.0 ≤ length bs = w.1.within in
    subst (All (LiesBelow (length bs))) (sym w.1.pairs) (All-weaker (LiesBelow w.0) (LiesBelow (length bs)) (λ pair l.
    (omega (arith, l.0, low), omega (arith, l.1, low))) (pairs_before bs w.0) (all_below bs w.0))

-- a pair of indices as a pair of positions
abbrev pub placed_pair : List ℕ → ℕ × ℕ → ℕ × ℕ
placed_pair ps pair = (slice_index ps pair.0, slice_index ps pair.1)

-- the value for the position at an index is that for the index
value_at_index : (ps : List ℕ) → IsDistinct ps → (pairs : List (ℕ × ℕ)) → All (λ pair. pair.0 < length ps) pairs →
    (k : ℕ) → k < length ps →
    value_beside (map (placed_pair ps) pairs) (slice_index ps k) ≡ option_map (slice_index ps) (value_beside pairs k)
value_at_index ps are [] within k h = refl
value_at_index ps are (x ∷ xs) within k h =
    let p : ℕ = slice_index ps k in
    elim (cases_Bool (x.0 == k)) [
      | inl same ↦
          (let there : (slice_index ps x.0 == p) ≡ true =
          eq-eqb (slice_index ps x.0) p (ap (slice_index ps) (eqb-true x.0 k same)) in
          ap (option_map (λ (y : ℕ × ℕ). y.1)) (cond-true (slice_index ps x.0 == p) (Some (placed_pair ps x))
          (find (λ (y : ℕ × ℕ). y.0 == p) (map (placed_pair ps) xs)) there)
          ∙ sym (ap (option_map (slice_index ps))
          (ap (option_map (λ (y : ℕ × ℕ). y.1))
          (cond-true (x.0 == k) (Some x) (find (λ (y : ℕ × ℕ). y.0 == k) xs) same))))
      | inr other ↦
          (let low : x.0 < length ps = All-head (λ (pair : ℕ × ℕ). pair.0 < length ps) x xs within in
          let there : (slice_index ps x.0 == p) ≡ false =
          ne_eqb (slice_index ps x.0) p (are x.0 k low h (λ e. let same = eq-eqb x.0 k e in cc)) in
          ap (option_map (λ (y : ℕ × ℕ). y.1)) (cond-false (slice_index ps x.0 == p) (Some (placed_pair ps x))
          (find (λ (y : ℕ × ℕ). y.0 == p) (map (placed_pair ps) xs)) there)
          ∙ value_at_index ps are xs (All-tail (λ (pair : ℕ × ℕ). pair.0 < length ps) x xs within) k h
          ∙ sym (ap (option_map (slice_index ps))
          (ap (option_map (λ (y : ℕ × ℕ). y.1))
          (cond-false (x.0 == k) (Some x) (find (λ (y : ℕ × ℕ). y.0 == k) xs) other))))
    ]

-- there is no value for a position that is not in the list
value_nowhere : (ps : List ℕ) (pairs : List (ℕ × ℕ)) → All (λ pair. pair.0 < length ps) pairs → (p : ℕ) →
    times ps p ≡ 0 → value_beside (map (placed_pair ps) pairs) p ≡ None
value_nowhere ps [] within p none = refl
value_nowhere ps (x ∷ xs) within p none =
    let low : x.0 < length ps = All-head (λ (pair : ℕ × ℕ). pair.0 < length ps) x xs within in
    let there : (slice_index ps x.0 == p) ≡ false =
    ne_eqb (slice_index ps x.0) p (λ e. let some =
    times_some ps p (subst (Contains ps) e (contains_index ps x.0 low)) in omega arith) in
    ap (option_map (λ (y : ℕ × ℕ). y.1)) (cond-false (slice_index ps x.0 == p) (Some (placed_pair ps x))
    (find (λ (y : ℕ × ℕ). y.0 == p) (map (placed_pair ps) xs)) there)
    ∙ value_nowhere ps xs (All-tail (λ (pair : ℕ × ℕ). pair.0 < length ps) x xs within) p none

module _ (us : List BidiUnit) (weak : List Class) where
  pub pairs_lie : (s : SequenceView) →
      All (LiesBelow (length s.positions))
      (bracket_pairs_of standard.brackets (brackets_of s us (classes_at weak s.positions)))
  pairs_lie s = grind (arith, length-brackets_at, lie_inside)

  pairs_within : (s : SequenceView) →
      All (λ pair. pair.0 < length s.positions)
      (bracket_pairs_of standard.brackets (brackets_of s us (classes_at weak s.positions)))
  pairs_within s = All-weaker (LiesBelow (length s.positions)) (λ (pair : ℕ × ℕ). pair.0 < length s.positions)
      (λ pair l. l.0) _ (pairs_lie s)

  pub says_own : SaysOwn (pairs_in us weak)
  says_own = λ s p none. value_nowhere s.positions _ (pairs_within s) p none

  -- the value for the position of an opening bracket is the position of its closing bracket
  pub pair_at_index : (s : SequenceView) → IsDistinct s.positions → (k : ℕ) → k < length s.positions →
      value_beside (pairs_in us weak s) (slice_index s.positions k)
      ≡ option_map (slice_index s.positions)
      (closer_of (bracket_pairs_of standard.brackets (brackets_of s us (classes_at weak s.positions))) k)
  unfolding closer_of
  pair_at_index s are k h = value_at_index s.positions are _ (pairs_within s) k h

  -- the table after these sequences have their pairs
  abbrev pub ArePaired : List SequenceView → List (Option ℕ) → Type 0
  ArePaired done table = (p : ℕ) → closer_in table p ≡ value_beside (flat_map (pairs_in us weak) done) p

  module _ {extent : ℕ} {all : List SequenceView} (apart : AreDisjoint extent all) {k : ℕ} {s : SequenceView}
      (at : slice_get all k ≡ Some s) (inside : k < length all) where
    -- with one more sequence
    pub paired_next : (now next : List (Option ℕ)) → ArePaired (take k all) now →
        HoldsPairsOf standard.brackets s.positions (brackets_of s us (classes_at weak s.positions)) next →
        KeepsOtherClosers s.positions now next → ArePaired (take (k + 1) all) next
    paired_next now next w holds keeps p =
        let ps : List ℕ = s.positions in
        elim (cases_lt 0 (times ps p)) [
          | inl some ↦
              (let z = index_in ps p some in
              let within : p < extent =
              within_extent apart at inside p (subst (Contains ps) z.2 (contains_index ps z.0 z.1)) in
              ap (closer_in next) (sym z.2) ∙ holds z.0 z.1 ∙
              sym (pair_at_index s (distinct_in apart at inside) z.0 z.1)
              ∙ ap (value_beside (pairs_in us weak s)) z.2
              ∙ sym (value_here (pairs_in us weak) says_own apart at inside p within some))
          | inr others ↦
              (let none : times ps p ≡ 0 = omega arith in
              keeps p (λ c. let t = times_some ps p c in absurd (omega arith))
              ∙ w p
              ∙ sym (value_elsewhere (pairs_in us weak) says_own apart at inside p none))
        ]

  -- after all sequences have theirs
  pub paired_end : (all : List SequenceView) (k : ℕ) (table : List (Option ℕ)) → length all ≡ k →
      length table ≡ length us →
      ArePaired (take k all) table → table ≡ closers_of all us weak
  unfolding closers_of closer_of
  paired_end all k table e n w =
      let f : ℕ → Option ℕ = closer_of (flat_map (pairs_in us weak) all) in
      let m : length (positions_of us) ≡ length us = length-positions_from 0 (length us) in
      let h : length (map f (positions_of us)) ≡ length (positions_of us) = length-map (positions_of us) f in
      let whole : take k all ≡ all = take_all k all (omega arith) in
      ext_get_or None table (map f (positions_of us)) (omega arith)
      (λ i l.
      let at : slice_index (positions_of us) i ≡ i =
      omega (arith, get_or-positions_from 0 (length us) i 0 (omega arith)) in
      w i ∙ ap (λ (done : List SequenceView). value_beside (flat_map (pairs_in us weak) done) i) whole ∙ ap f (sym at) ∙
      sym (get_or-map f (positions_of us) i 0 None (omega arith)))

-- A sequence without risers keeps its level, and so does a flat paragraph (W1 to I2).
use Rattle.std.proofs.Common.{◌≡◌, ℕ, zero, suc, ◌+◌, ◌-◌, ◌<◌, ◌≤◌, Bool, true, false, cond, Some, None, List, [], ◌∷◌, length, map, get_or, refl, ap, sym, subst, ◌∙◌, arith, inl, inr}
use Rattle.std.specs.Prelude.{Option, not, ◌%◌, ◌==◌, filter, fold, slice_range}
use Rattle.std.specs.List.{All, flat_map, zip}
use Rattle.std.proofs.lemmas.Bool.{cases_Bool, eq-eqb, ne_eqb, not-true}
use Rattle.std.proofs.lemmas.List.{get_or-map, length-map, append-nil}
use Rattle.std.proofs.lemmas.List.Folds.{list_any_none}
use Rattle.std.proofs.lemmas.List.Elements.{All-nil, All-take, All-drop}
use Rattle.units.specs.Classes.{classes_of, class_at, classes_at, is_removed, is_strong, is_base, is_neutral, is_terminator}
use Rattle.units.specs.Positions.{positions_from, positions_of, first_from}
use Rattle.units.specs.Runs.{SequenceView, direction_of}
use Rattle.units.specs.Weak.{at_each, class_or, nearest_before, nearest_after, is_any, class_by_run, by_w3, by_w5, by_w6, after_w1, after_w2, after_w3, after_w4, after_w5, after_w6, after_w7, after_weak}
use Rattle.units.specs.Brackets.{acting_brackets, bracket_pairs_of, closer_of, strong_as, same_direction, opposite, occurs_in, context_before, direction_of_pair, follows_bracket, given_to, with_direction, after_pair, after_paired}
use Rattle.units.specs.Neutral.{by_sides, after_neutral}
use Rattle.units.specs.Implicit.{implicit_level, rise_at_even, rise_at_odd}
use Rattle.units.specs.Limits.{LimitsOf}
use Rattle.units.specs.Layout.{units_at, no_unit, levels_of_sequence, levels_in, value_beside, resolved_levels}
use Rattle.units.specs.declared.bracket.Unit.{Unit as BidiUnit}
use Rattle.units.specs.declared.class.Class.{Class}
use Rattle.units.specs.declared.class.Class.TheVariants.{L, ON}
use Rattle.explicit.specs.Flat.{IsFlat, is_remaining, remaining_of, level_sequence, level_sequences}
use Rattle.explicit.specs.FlatTheorems.{IsUniformSequence, SequenceKeepsItsLevel}
use Rattle.explicit.specs.IdleRules.{HasNone}
use Rattle.explicit.specs.Uniform.{level_unless_removed_at, may_rise}
use Rattle.units.proofs.Positions.{length-positions_from, get_or-positions_from}
use Rattle.std.proofs.lemmas.Simd.{map-map}
use Rattle.explicit.proofs.Listed.{map-positions_of}
use Rattle.explicit.proofs.IdleRules.{at_each_same}
use Rattle.units.proofs.Lengths.{length-after_paired, length-after_weak, length-classes_of}
use Rattle.explicit.proofs.WholeLevels.{resolved_levels-flat}
use Rattle.explicit.proofs.ByRules.{direction, own_stays, marked_stays, lettered_stays, separated_stays, resolved_stays, own_from, w1_stays, w2_same, w3_stays, w4_stays, w5_stays, w6_stays, w7_stays, not_opposite, not_neutral, after_direction, direction_stays, own_is}

-- all classes pass
abbrev pub AllPass : (Class → Bool) → List Class → Type 0
AllPass test cs = All (λ c. test c ≡ true) cs

-- a class that passes both tests
abbrev pub PassesBoth : (Class → Bool) → (Class → Bool) → Class → Type 0
PassesBoth kind test c = (kind c ≡ true) × (test c ≡ true)

pub nearest_before-passes : (kind test : Class → Bool) (cs : List Class) (k : ℕ) (sos : Class) → k ≤ length cs →
    AllPass kind cs → PassesBoth kind test sos → PassesBoth kind test (nearest_before cs test k sos)
nearest_before-passes kind test cs zero sos le all start = start
nearest_before-passes kind test cs (suc k) sos le all start = grind (arith, nearest_before-passes kind test cs k sos)

first_passes : (kind test : Class → Bool) (cs : List Class) (start count : ℕ) (eos : Class) →
    start + count ≤ length cs → AllPass kind cs → PassesBoth kind test eos →
    PassesBoth kind test (class_or cs (first_from (λ j. test (class_at cs j)) start count) eos)
first_passes kind test cs start zero eos le all end = end
first_passes kind test cs start (suc count) eos le all end =
    grind (arith, first_passes kind test cs (start + 1) count eos)

pub nearest_after-passes : (kind test : Class → Bool) (cs : List Class) (k : ℕ) (eos : Class) → k < length cs →
    AllPass kind cs → PassesBoth kind test eos → PassesBoth kind test (nearest_after cs test k eos)
nearest_after-passes kind test cs k eos lt all end =
    first_passes kind test cs (k + 1) (length cs - (k + 1)) eos (omega arith) all end

pub at_each-passes : (kind : Class → Bool) (f : ℕ → Class) (cs : List Class) →
    ((k : ℕ) → k < length cs → kind (f k) ≡ true) → AllPass kind (at_each f cs)
at_each-passes kind f cs h = (λ k d lt.
    let n : length (positions_of cs) ≡ length cs = length-positions_from 0 (length cs) in
    let l : k < length cs = omega (arith, n, length-map (positions_of cs) f) in
    let e : get_or (positions_of cs) k 0 ≡ k = get_or-positions_from 0 (length cs) k 0 l ∙ omega arith in
    ap kind (get_or-map f (positions_of cs) k 0 d (omega (arith, n))) ∙ ap (λ p. kind (f p)) e ∙ h k l)

pub map-passes : (kind later : Class → Bool) (f : Class → Class) → ((c : Class) → kind c ≡ true → later (f c) ≡ true) →
    (cs : List Class) → AllPass kind cs → AllPass later (map f cs)
map-passes kind later f h cs all = (λ k d lt.
    let l : k < length cs = omega (arith, length-map cs f) in
    ap later (get_or-map f cs k d d l) ∙ h (get_or cs k d) (all k d l))

-- W1 to W7, one after another
after_w1-stays : (even : Bool) (cs : List Class) → AllPass (own_stays even) cs →
    AllPass (marked_stays even) (after_w1 (direction even) cs)
after_w1-stays even cs all =
    let d = direction_stays even in
    at_each-passes (marked_stays even) _ cs (λ k lt.
    let before = nearest_before-passes (own_stays even) is_base cs k (direction even) (omega arith) all (
      d.own,
      d.base,
    ) in
    w1_stays even (nearest_before cs is_base k (direction even)) (class_at cs k) before.0 before.1 (all k L lt))

after_w2-stays : (even : Bool) (cs : List Class) → AllPass (marked_stays even) cs → after_w2 (direction even) cs ≡ cs
after_w2-stays even cs all =
    let d = direction_stays even in
    at_each_same _ cs (λ k lt.
    let before = nearest_before-passes (marked_stays even) is_strong cs k (direction even) (omega arith) all (
      d.marked,
      d.strong,
    ) in
    w2_same even (nearest_before cs is_strong k (direction even)) (class_at cs k) before.0 (all k L lt))

after_w3-stays : (even : Bool) (cs : List Class) → AllPass (marked_stays even) cs →
    AllPass (lettered_stays even) (after_w3 cs)
after_w3-stays even cs all = map-passes (marked_stays even) (lettered_stays even) by_w3 (w3_stays even) cs all

after_w4-stays : (even : Bool) (cs : List Class) → AllPass (lettered_stays even) cs →
    AllPass (lettered_stays even) (after_w4 cs)
after_w4-stays even cs all =
    let d = direction_stays even in
    at_each-passes (lettered_stays even) _ cs (λ k lt.
    let before = nearest_before-passes (lettered_stays even) is_any cs k ON (omega arith) all (d.outside, refl) in
    w4_stays even (nearest_before cs is_any k ON) (class_at cs k) (nearest_after cs is_any k ON) before.0 (all k L lt))

after_w5-stays : (even : Bool) (cs : List Class) → AllPass (lettered_stays even) cs →
    AllPass (lettered_stays even) (after_w5 cs)
after_w5-stays even cs all =
    let d = direction_stays even in
    at_each-passes (lettered_stays even) (class_by_run is_terminator by_w5 ON ON cs) cs (λ k lt.
    let before = nearest_before-passes (lettered_stays even) (λ c. not (is_terminator c)) cs k ON (omega arith) all
    (d.outside, refl) in
    let after = nearest_after-passes (lettered_stays even) (λ c. not (is_terminator c)) cs k ON lt all (
      d.outside,
      refl,
    ) in
    elim (cases_Bool (is_terminator (class_at cs k))) [
      | inl run ↦ rw run (w5_stays even (nearest_before cs (λ c. not (is_terminator c)) k ON) (nearest_after cs (λ c.
          not (is_terminator c)) k ON) before.0 after.0)
      | inr other ↦ rw other (all k L lt)
    ])

after_w6-stays : (even : Bool) (cs : List Class) → AllPass (lettered_stays even) cs →
    AllPass (separated_stays even) (after_w6 cs)
after_w6-stays even cs all = map-passes (lettered_stays even) (separated_stays even) by_w6 (w6_stays even) cs all

after_w7-stays : (even : Bool) (cs : List Class) → AllPass (separated_stays even) cs →
    AllPass (resolved_stays even) (after_w7 (direction even) cs)
after_w7-stays even cs all =
    let d = direction_stays even in
    at_each-passes (resolved_stays even) _ cs (λ k lt.
    let before = nearest_before-passes (separated_stays even) is_strong cs k (direction even) (omega arith) all
    (d.separated, d.strong) in
    w7_stays even (nearest_before cs is_strong k (direction even)) (class_at cs k) before.0 before.1 (all k L lt))

after_weak-stays : (even : Bool) (cs : List Class) → AllPass (own_stays even) cs →
    AllPass (resolved_stays even) (after_weak (direction even) cs)
unfolding after_weak
after_weak-stays even cs all =
    let a : List Class = after_w1 (direction even) cs in
    let first : AllPass (marked_stays even) a = after_w1-stays even cs all in
    let second : AllPass (marked_stays even) (after_w2 (direction even) a) =
    subst (AllPass (marked_stays even)) (sym (after_w2-stays even a first)) first in
    let b : List Class = after_w2 (direction even) a in
    let c : List Class = after_w3 b in
    let e : List Class = after_w4 c in
    let f : List Class = after_w5 e in
    let g : List Class = after_w6 f in
    let third : AllPass (lettered_stays even) c = after_w3-stays even b second in
    let fourth : AllPass (lettered_stays even) e = after_w4-stays even c third in
    let fifth : AllPass (lettered_stays even) f = after_w5-stays even e fourth in
    let sixth : AllPass (separated_stays even) g = after_w6-stays even f fifth in
    after_w7-stays even g sixth

-- N0: a pair takes the direction or none
given_to-stays : (even : Bool) (before : List Class) (b : ℕ) (cs : List Class) → AllPass (resolved_stays even) cs →
    AllPass (resolved_stays even) (given_to before b (direction even) cs)
given_to-stays even before b cs all =
    let d = direction_stays even in
    at_each-passes (resolved_stays even) (λ k. cond (follows_bracket before b k) (direction even) (class_at cs k)) cs
    (λ k lt.
    elim (cases_Bool (follows_bracket before b k)) [
      | inl marked ↦ rw marked d.decided
      | inr other ↦
          rw other (all k L lt)
    ])

none_opposite : (even : Bool) (inside : List Class) → AllPass (resolved_stays even) inside →
    occurs_in inside (opposite (direction even)) ≡ false
none_opposite even inside all =
    list_any_none (λ c. same_direction (opposite (direction even)) (strong_as c)) inside (λ k d lt.
    not_opposite even (get_or inside k d) (all k d lt))

-- the direction that a pair takes is the embedding one
direction_of_pair-stays : (even : Bool) (context : Class) (inside : List Class) → AllPass (resolved_stays even) inside →
    (c : Class) → direction_of_pair (direction even) context inside ≡ Some c → c ≡ direction even
direction_of_pair-stays even context inside all c e = grind (arith, none_opposite)

with_direction-stays : (even : Bool) (before cs : List Class) (o c : ℕ) (taken : Option Class) →
    ((d : Class) → taken ≡ Some d → d ≡ direction even) → AllPass (resolved_stays even) cs →
    AllPass (resolved_stays even) (with_direction before cs o c taken)
with_direction-stays even before cs o c None same all = all
with_direction-stays even before cs o c (Some d) same all =
    rw (same d refl) (given_to-stays even before c (given_to before o (direction even) cs)
    (given_to-stays even before o cs all))

after_pair-stays : (even : Bool) (before cs : List Class) (o : ℕ) (closer : Option ℕ) →
    AllPass (resolved_stays even) cs →
    AllPass (resolved_stays even) (after_pair (direction even) (direction even) before cs o closer)
after_pair-stays even before cs o None all = all
after_pair-stays even before cs o (Some c) all =
    let inside : List Class = slice_range cs (o + 1) c in
    let passes : AllPass (resolved_stays even) inside =
    All-take (λ x. resolved_stays even x ≡ true) (c - (o + 1)) _ (All-drop (λ x. resolved_stays even x ≡ true)
    (o + 1) cs all) in
    with_direction-stays even before cs o c
    (direction_of_pair (direction even) (context_before cs (direction even) o) inside)
    (direction_of_pair-stays even (context_before cs (direction even) o) inside passes) all

pairs-stay : (even : Bool) (before : List Class) (closer : ℕ → Option ℕ) (cs : List Class) (os : List ℕ) →
    AllPass (resolved_stays even) cs →
    AllPass (resolved_stays even) (fold (λ now o. after_pair (direction even) (direction even) before now o (closer o))
    cs os)
pairs-stay even before closer cs [] all = all
pairs-stay even before closer cs (o ∷ os) all =
    pairs-stay even before closer (after_pair (direction even) (direction even) before cs o (closer o)) os
    (after_pair-stays even before cs o (closer o) all)

after_paired-stays : (even : Bool) (before : List Class) (closer : ℕ → Option ℕ) (cs : List Class) →
    AllPass (resolved_stays even) cs →
    AllPass (resolved_stays even) (after_paired (direction even) (direction even) before closer cs)
unfolding after_paired
after_paired-stays even before closer cs all = pairs-stay even before closer cs (positions_of cs) all

-- N1, N2: all take the direction, whatever eos is
after_neutral-stays : (even : Bool) (eos : Class) (cs : List Class) → AllPass (resolved_stays even) cs →
    after_neutral (direction even) (direction even) eos cs ≡ map (λ c. direction even) cs
unfolding after_neutral
after_neutral-stays even eos cs all =
    let d = direction_stays even in
    map-positions_of (class_by_run is_neutral (by_sides (direction even)) (direction even) eos cs) (λ c.
    direction even) L cs
    (λ k lt.
    let outside : not (is_neutral (direction even)) ≡ true = ap not d.neutral in
    let before = nearest_before-passes (resolved_stays even) (λ c. not (is_neutral c)) cs k (direction even)
    (omega arith) all (d.decided, outside) in
    let remaining : nearest_before cs (λ c. not (is_neutral c)) k (direction even) ≡ direction even =
    not_neutral even _ before.0 (not-true _ before.1) in
    elim (cases_Bool (is_neutral (class_at cs k))) [
      | inl neutral ↦ rw (neutral, remaining) (after_direction even (nearest_after cs (λ c. not (is_neutral c)) k eos))
      | inr strong ↦ rw strong (not_neutral even (class_at cs k) (all k L lt) strong)
    ])

-- the level of a direction is its own
own_level_by : (even : Bool) (level : ℕ) →
    level + cond even (rise_at_even (direction even)) (rise_at_odd (direction even)) ≡ level
own_level_by true level = omega arith
own_level_by false level = omega arith

pub own_level : (level : ℕ) → implicit_level level (direction_of level) ≡ level
own_level level = own_level_by (level % 2 == 0) level

one_value : {A B C : Type 0} (z : C) (xs : List A) (ys : List B) → length xs ≡ length ys →
    map (λ (x : A). z) xs ≡ map (λ (y : B). z) ys
one_value z [] [] e = refl
one_value z [] (y ∷ ys) e = absurd (omega arith)
one_value z (x ∷ xs) [] e = absurd (omega arith)
one_value z (x ∷ xs) (y ∷ ys) e = ap (λ zs. z ∷ zs) (one_value z xs ys (omega arith))

-- the classes at the positions that remain pass
remaining_pass : (kind : Class → Bool) (keep : ℕ → Bool) (f : ℕ → Class) (start count : ℕ) →
    ((p : ℕ) → p < start + count → keep p ≡ true → kind (f p) ≡ true) →
    AllPass kind (map f (filter keep (positions_from start count)))
remaining_pass kind keep f start zero h = All-nil (λ c. kind c ≡ true)
remaining_pass kind keep f start (suc count) h = grind (arith, remaining_pass kind keep f (start + 1) count)

-- each of these positions, with the one level
abbrev one_level : ℕ → List ℕ → List (ℕ × ℕ)
one_level para ps = zip ps (map (λ (p : ℕ). para) ps)

level_outside : (para : ℕ) (keep : ℕ → Bool) (start count p : ℕ) → p < start →
    value_beside (one_level para (filter keep (positions_from start count))) p ≡ None
level_outside para keep start zero p lt = refl
level_outside para keep start (suc count) p lt = grind (arith, ne_eqb, level_outside para keep (start + 1) count p)

level_inside : (para : ℕ) (keep : ℕ → Bool) (start count p : ℕ) → start ≤ p → p < start + count →
    value_beside (one_level para (filter keep (positions_from start count))) p ≡ cond (keep p) (Some para) None
level_inside para keep start zero p ge lt = absurd (omega arith)
level_inside para keep start (suc count) p ge lt =
    grind (arith, eq-eqb, level_outside, ne_eqb, level_inside para keep (start + 1) count p)

level_or_none : (para : ℕ) (c : Class) → cond (is_remaining c) (Some para) None ≡ level_unless_removed_at para c
level_or_none para c = elim (cases_Bool (is_removed c)) [ inl gone ↦ rw gone refl | inr retained ↦ rw retained refl ]

module _ (most_open : ℕ) (us : List BidiUnit) (para : ℕ) where
  abbrev even : Bool
  even = para % 2 == 0

  levels_stay : (s : SequenceView) (before : List Class) → s.level ≡ para → s.sos ≡ direction even →
      AllPass (own_stays even) before →
      levels_of_sequence most_open s us before ≡ map (λ (c : Class). para) before
  levels_stay s before l sos own =
      let weak : List Class = after_weak (direction even) before in
      let closer : ℕ → Option ℕ =
      closer_of (bracket_pairs_of most_open (acting_brackets (units_at us s.positions) weak)) in
      let paired : List Class = after_paired (direction even) (direction even) before closer weak in
      let decided : AllPass (resolved_stays even) paired =
      after_paired-stays even before closer weak (after_weak-stays even before own) in
      let n : length paired ≡ length before = length-after_paired (direction even) (direction even) before closer weak ∙
      length-after_weak (direction even) before in
      rw (l, sos) (
      ap (map (implicit_level para)) (after_neutral-stays even s.eos paired decided)
      ∙ map-map (implicit_level para) (λ (c : Class). direction even) paired
      ∙ ap (λ k. map (λ (c : Class). k) paired) (own_level para)
      ∙ one_value para paired before n
      )

-- a sequence without risers that begins in the direction of its level
pub levels_of_sequence-uniform : (most_open : ℕ) (s : SequenceView) (us : List BidiUnit) (before : List Class) →
    IsUniformSequence s before → SequenceKeepsItsLevel most_open s us before
levels_of_sequence-uniform most_open s us before is =
    levels_stay most_open us s.level s before refl is.0 (λ k d lt.
    own_is (s.level % 2 == 0) (get_or before k d) ∙ is.1 k d lt)

module _ (limits : LimitsOf) (us : List BidiUnit) (para : ℕ) where
  abbrev parity : Bool
  parity = para % 2 == 0

  levels_are_one_level : (extent : ℕ) (ps : List ℕ) → AllPass (own_stays parity) (classes_at (classes_of us) ps) →
      flat_map (levels_in limits.brackets us (classes_of us)) (level_sequences para extent ps) ≡ one_level para ps
  levels_are_one_level extent [] own = refl
  levels_are_one_level extent (p ∷ ps) own =
      append-nil (levels_in limits.brackets us (classes_of us) (level_sequence para extent (p ∷ ps)))
      ∙ ap (zip (p ∷ ps)) (levels_stay limits.brackets us para (level_sequence para extent (p ∷ ps)) (classes_at (classes_of us) (p ∷ ps)) refl
      refl own
      ∙ map-map (λ (c : Class). para) (class_at (classes_of us)) (p ∷ ps))

  pub resolved_levels-uniform : IsFlat (classes_of us) → HasNone (may_rise para) (classes_of us) →
      resolved_levels limits us para ≡ map (λ unit. level_unless_removed_at para unit.class) us
  resolved_levels-uniform flat none =
      let cs : List Class = classes_of us in
      let n : length cs ≡ length us = length-classes_of us in
      let own : AllPass (own_stays parity) (classes_at cs (remaining_of cs)) =
      remaining_pass (own_stays parity) (λ p. is_remaining (class_at cs p)) (class_at cs) 0 (length cs)
      (λ p lt retained. own_from parity (class_at cs p) retained (none p L (omega arith))) in
      resolved_levels-flat limits us para flat
      ∙ ap (λ found. map (value_beside found) (positions_of us))
      (levels_are_one_level (length cs) (remaining_of cs) own)
      ∙ map-positions_of (value_beside (one_level para (remaining_of cs))) (λ (u : BidiUnit).
      level_unless_removed_at para u.class) no_unit us
      (λ k lt.
      level_inside para (λ p. is_remaining (class_at cs p)) 0 (length cs) k (omega arith) (omega arith)
      ∙ level_or_none para (class_at cs k)
      ∙ ap (level_unless_removed_at para) (get_or-map (λ (u : BidiUnit). u.class) us k no_unit L lt))

-- Sequence by sequence, each position gets the level that its sequence gives it.
use Rattle.std.specs.Prelude.{Option, Some, None, ℕ, zero, suc, ◌+◌, ◌<◌, ◌≤◌, ◌≡◌, List, [], ◌∷◌, ◌++◌, length, map, take, drop, Contains, slice_get, slice_index, refl}
use Rattle.std.specs.List.{flat_map}
use Rattle.std.proofs.Common.{arith, ap, sym, ◌∙◌, subst, inl, inr, get_or}
use Rattle.std.proofs.lemmas.Bool.{cases_lt}
use Rattle.std.proofs.lemmas.List.{length-append, length-map, take-append-drop, take_all, take_more, append-nil}
use Rattle.std.proofs.lemmas.List.Elements.{Contains-append_left, Contains-append_right}
use Rattle.std.proofs.lemmas.List.Concat.{flat_map-append}
use Rattle.std.proofs.lemmas.Option.{get_or_from_slice_get}
use Rattle.units.specs.Classes.{class_at, classes_at}
use Rattle.units.specs.Layout.{levels_in, value_beside, levels_of_sequence}
use Rattle.units.specs.Runs.{SequenceView}
use Rattle.units.proofs.Lengths.{length-levels_of_sequence}
use Rattle.units.specs.declared.bracket.Unit.{Unit as BidiUnit}
use Rattle.units.specs.declared.class.Class.{Class}
use Rattle.sequences.specs.Once.{times}
use Rattle.sequences.proofs.Once.{one_if-same, times-append, times-cons}
use Rattle.paragraph.proofs.ComputedBeside.{found-append, found-append_none, none_beside, zip_none, zip_some}
use Rattle.paragraph.specs.Covering.{positions_in, AreDisjoint, HasLevelsBy, HavePositions}
use Rattle.resolve.specs.Raised.{resolved_at}
use Rattle.resolve.specs.Resolved.{HasLevels, KeepsOtherLevels, Resolves}
use Rattle.resolve.specs.Rewritten.{KeepsOthers}

-- a position that a list contains counts at least once
pub times_some : (ps : List ℕ) (p : ℕ) → Contains ps p → 0 < times ps p
times_some [] p c = absurd (omega (arith, c.1))
times_some (x ∷ ps) p (zero, within, e) = omega (arith, times-cons x ps p, one_if-same x p e)
times_some (x ∷ ps) p (suc k, within, e) = omega (arith, times-cons x ps p, times_some ps p (k, omega arith, e))

module _ (most_open : ℕ) (us : List BidiUnit) (before : List Class) where
  -- sequences that do not contain a position give it no level
  pub unfound : (all : List SequenceView) (p : ℕ) → times (positions_in all) p ≡ 0 →
      value_beside (flat_map (levels_in most_open us before) all) p ≡ None
  unfound =
      none_beside (levels_in most_open us before) (λ s p none.
      zip_none s.positions (levels_of_sequence most_open s us (classes_at before s.positions)) p none)

-- the result of these sequences: their positions have their levels, all others still have their classes before W1
pub record IsCovered (most_open : ℕ) (us : List BidiUnit) (before : List Class) (done : List SequenceView)
    (classes : List Class) (levels : List (Option ℕ)) : Type 0 where
  pub found : HasLevelsBy most_open us before done levels
  pub unchanged : (p : ℕ) → times (positions_in done) p ≡ 0 → class_at classes p ≡ class_at before p

pub covered_none : (most_open : ℕ) (us : List BidiUnit) (before : List Class) (levels : List (Option ℕ)) →
    ((p : ℕ) → resolved_at levels p ≡ None) → IsCovered most_open us before [] before levels
covered_none most_open us before levels fresh = record { found = λ p h. fresh p; unchanged = λ p h. refl }

times_in-append : (xs ys : List SequenceView) (p : ℕ) →
    times (positions_in (xs ++ ys)) p ≡ times (positions_in xs) p + times (positions_in ys) p
times_in-append [] ys p = omega arith
times_in-append (x ∷ xs) ys p =
    omega (
      arith,
      times-append x.positions (positions_in (xs ++ ys)) p,
      times-append x.positions (positions_in xs) p,
      times_in-append xs ys p,
    )

times_in-push : (xs : List SequenceView) (s : SequenceView) (p : ℕ) →
    times (positions_in (xs ++ (s ∷ []))) p ≡ times (positions_in xs) p + times s.positions p
times_in-push xs s p = omega (arith, times_in-append xs (s ∷ []) p, times-append s.positions [] p)

length_in-push : (xs : List SequenceView) (s : SequenceView) →
    length (positions_in (xs ++ (s ∷ []))) ≡ length (positions_in xs) + length s.positions
length_in-push [] s = omega (arith, length-append s.positions [])
length_in-push (x ∷ xs) s =
    omega (
      arith,
      length-append x.positions (positions_in (xs ++ (s ∷ []))),
      length-append x.positions (positions_in xs),
      length_in-push xs s,
    )

times_in-take : (xs : List SequenceView) (k : ℕ) (p : ℕ) →
    times (positions_in (take k xs)) p ≤ times (positions_in xs) p
times_in-take xs k p =
    let whole : times (positions_in (take k xs ++ drop k xs)) p ≡ times (positions_in xs) p =
    ap (λ (ys : List SequenceView). times (positions_in ys) p) (take-append-drop k xs) in
    omega (arith, whole, times_in-append (take k xs) (drop k xs) p)

-- two functions that agree on the elements of a list give the same list
map_where : {B : Type 0} (f g : ℕ → B) (ps : List ℕ) → ((p : ℕ) → Contains ps p → f p ≡ g p) → map f ps ≡ map g ps
map_where f g [] same = refl
map_where {B} f g (p ∷ ps) same =
    let here : f p ≡ g p = same p (0, omega arith, refl) in
    let rest : map f ps ≡ map g ps = map_where f g ps (λ q c. same q (suc c.0, omega (arith, c.1), c.2)) in
    ap (λ (x : B). x ∷ map f ps) here ∙ ap (λ (xs : List B). g p ∷ xs) rest

contained : (all : List SequenceView) (k : ℕ) (d : SequenceView) → k < length all → (p : ℕ) →
    Contains (get_or all k d).positions p → Contains (positions_in all) p
contained [] k d h p c = absurd (omega arith)
contained (s ∷ all) zero d h p c = Contains-append_left s.positions (positions_in all) p c
contained (s ∷ all) (suc k) d h p c =
    Contains-append_right s.positions (positions_in all) p (contained all k d (omega arith) p c)

-- no position of the sequence is in an earlier one
module _ {extent : ℕ} {all : List SequenceView} (apart : AreDisjoint extent all) {k : ℕ} {s : SequenceView}
    (at : slice_get all k ≡ Some s) (inside : k < length all) where
  pub take_next : take (k + 1) all ≡ take k all ++ (s ∷ [])
  take_next = take_more all k s inside ∙
      ap (λ (x : SequenceView). take k all ++ (x ∷ [])) (get_or_from_slice_get all k s s at)

  times_next : (p : ℕ) →
      times (positions_in (take (k + 1) all)) p ≡ times (positions_in (take k all)) p + times s.positions p
  times_next p = ap (λ (xs : List SequenceView). times (positions_in xs) p) take_next ∙ times_in-push (take k all) s p

  -- the positions that come before its own
  pub length_next : length (positions_in (take (k + 1) all)) ≡ length (positions_in (take k all)) + length s.positions
  length_next = ap (λ (xs : List SequenceView). length (positions_in xs)) take_next ∙ length_in-push (take k all) s

  pub apart_from_earlier : (p : ℕ) → p < extent → 0 < times s.positions p → times (positions_in (take k all)) p ≡ 0
  apart_from_earlier p h l = omega (arith, times_next p, times_in-take all (k + 1) p, apart.once p h)

  pub within_extent : (p : ℕ) → Contains s.positions p → p < extent
  within_extent p c = grind (arith, get_or_from_slice_get)

  pub has_position : HavePositions all → 0 < length s.positions
  has_position some =
      let P : SequenceView → Type 0 = λ x. 0 < length x.positions in
      subst P (get_or_from_slice_get all k s s at) (some k s inside)

  pub is_in_all : (p : ℕ) → Contains s.positions p → Contains (positions_in all) p
  is_in_all p c =
      let P : SequenceView → Type 0 = λ x. Contains x.positions p in
      contained all k s inside p (subst P (sym (get_or_from_slice_get all k s s at)) c)

  pub copied : (classes before : List Class) → ((p : ℕ) → times (positions_in (take k all)) p ≡ 0 →
      class_at classes p ≡ class_at before p) →
      classes_at classes s.positions ≡ classes_at before s.positions
  copied classes before same =
      let one : (p : ℕ) → Contains s.positions p → class_at classes p ≡ class_at before p =
      λ p c. same p (apart_from_earlier p (within_extent p c) (times_some s.positions p c)) in
      map_where (class_at classes) (class_at before) s.positions one

  -- with the levels of the sequence, in which classes may have changed
  pub covered_by : (most_open : ℕ) (us : List BidiUnit) (before classes now_classes : List Class)
      (levels now_levels : List (Option ℕ)) → length us ≡ extent →
      IsCovered most_open us before (take k all) classes levels →
      HasLevels most_open s us before now_levels → KeepsOtherLevels s.positions levels now_levels →
      KeepsOthers s.positions classes now_classes →
      IsCovered most_open us before (take (k + 1) all) now_classes now_levels
  covered_by most_open us before classes now_classes levels now_levels n covered has others unchanged =
      let own : List (ℕ × ℕ) = levels_in most_open us before s in
      let earlier : List (ℕ × ℕ) = flat_map (levels_in most_open us before) (take k all) in
      let joined : flat_map (levels_in most_open us before) (take (k + 1) all) ≡ earlier ++ own =
      ap (flat_map (levels_in most_open us before)) take_next ∙
      flat_map-append (levels_in most_open us before) (take k all) (s ∷ []) ∙
      ap (λ (xs : List (ℕ × ℕ)). earlier ++ xs) (append-nil own) in
      let values : List ℕ = levels_of_sequence most_open s us (classes_at before s.positions) in
      let long : length values ≡ length s.positions =
      length-levels_of_sequence most_open s us (classes_at before s.positions) ∙
      length-map s.positions (class_at before) in
      record {
        found = λ p h.
            elim (cases_lt 0 (times s.positions p)) [
              | inl some ↦
                  (let w = zip_some s.positions values p long some 0 in
                  let none : value_beside earlier p ≡ None =
                  unfound most_open us before (take k all) p (apart_from_earlier p (omega (arith, h, n)) some) in
                  ap (resolved_at now_levels) (sym w.2) ∙ has w.0 w.1 ∙ sym w.3 ∙
                  sym (found-append earlier own p none))
              | inr outside ↦
                  (let none : times s.positions p ≡ 0 = omega arith in
                  others p (λ c. let t = times_some s.positions p c in absurd (omega arith))
                  ∙ covered.found p h
                  ∙ sym (found-append_none earlier own p (zip_none s.positions values p none)))
            ]
            ∙ sym (ap (λ (xs : List (ℕ × ℕ)). value_beside xs p) joined);
        unchanged = λ p e. unchanged p (λ c. let t = times_some s.positions p c in
            absurd (omega (arith, times_next p))) ∙ covered.unchanged p (omega (arith, times_next p));
      }

  pub covered_next : (most_open : ℕ) (us : List BidiUnit) (before classes now_classes : List Class)
      (levels now_levels : List (Option ℕ)) → length us ≡ extent →
      IsCovered most_open us before (take k all) classes levels →
      Resolves most_open s us before classes now_classes levels now_levels →
      IsCovered most_open us before (take (k + 1) all) now_classes now_levels
  covered_next most_open us before classes now_classes levels now_levels n covered resolved =
      covered_by most_open us before classes now_classes levels now_levels n covered resolved.levels
      resolved.other_levels resolved.other_classes

  -- the same for a sequence that keeps its level by these classes, which remain as they are
  pub covered_if_uniform : (most_open : ℕ) (us : List BidiUnit) (before classes : List Class)
      (levels now_levels : List (Option ℕ)) → length us ≡ extent →
      IsCovered most_open us before (take k all) classes levels →
      HasLevels most_open s us classes now_levels → KeepsOtherLevels s.positions levels now_levels →
      IsCovered most_open us before (take (k + 1) all) classes now_levels
  covered_if_uniform most_open us before classes levels now_levels n covered has others =
      let P : List Class → Type 0 =
      λ cs. (j : ℕ) → j < length s.positions → resolved_at now_levels (slice_index s.positions j) ≡
      Some (slice_index (levels_of_sequence most_open s us cs) j) in
      covered_by most_open us before classes classes levels now_levels n covered
      (subst P (copied classes before covered.unchanged) has) others (λ p h. refl)

-- the levels of a paragraph with one sequence
pub covered_by_one : {extent : ℕ} {all : List SequenceView} → AreDisjoint extent all → {s : SequenceView} →
    slice_get all 0 ≡ Some s → length all ≡ 1 → (most_open : ℕ) (us : List BidiUnit) (before now_classes : List Class)
    (levels now_levels : List (Option ℕ)) → length us ≡ extent → ((p : ℕ) → resolved_at levels p ≡ None) →
    Resolves most_open s us before before now_classes levels now_levels →
    HasLevelsBy most_open us before all now_levels
covered_by_one {extent} {all} apart {s} at one most_open us before now_classes levels now_levels n fresh resolved =
    let covered : IsCovered most_open us before (take (0 + 1) all) now_classes now_levels =
    covered_next apart at (omega arith) most_open us before before now_classes levels now_levels n
    (covered_none most_open us before levels fresh) resolved in
    let whole : take (0 + 1) all ≡ all = take_all (0 + 1) all (omega arith) in
    subst (λ xs. HasLevelsBy most_open us before xs now_levels) whole covered.found

pub length_of_one : {extent : ℕ} {all : List SequenceView} → AreDisjoint extent all → {s : SequenceView} →
    slice_get all 0 ≡ Some s → length all ≡ 1 → length s.positions ≤ extent
length_of_one {extent} {all} apart {s} at one =
    let whole : length (positions_in (take (0 + 1) all)) ≡ length (positions_in all) =
    ap (λ (xs : List SequenceView). length (positions_in xs)) (take_all (0 + 1) all (omega arith)) in
    omega (arith, whole, length_next apart at (omega arith), apart.fit)

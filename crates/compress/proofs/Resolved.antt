-- The levels of a flat paragraph, spread from those of the few units.
use Rattle.std.specs.Prelude.{Option, Some, None, ℕ, zero, suc, ◌+◌, ◌-◌, ◌<◌, ◌≤◌, ◌≡◌, ltb, not, cond, List, ◌++◌, length, map, take, drop, slice_index_or, if◌then◌else◌, refl}
use Rattle.std.proofs.Common.{arith, ap, sym, ◌∙◌, inl, inr}
use Rattle.std.proofs.lemmas.Bool.{cases_Bool, cases_lt, cond-true, cond-false}
use Rattle.std.proofs.lemmas.List.{drop-map, ext_get_or, get_or-append_right, get_or-drop, get_or-take, get_or_append_left, length-append, length-drop, length-map, length-take-le, take-map}
use Rattle.std.proofs.lemmas.List.Filters.{length-filter_more}
use Rattle.units.specs.Classes.{classes_of, is_removed}
use Rattle.units.specs.Layout.{no_unit, resolved_levels}
use Rattle.units.specs.Limits.{LimitsOf}
use Rattle.units.specs.Runs.{direction_of}
use Rattle.units.specs.declared.bracket.Unit.{Unit as BidiUnit}
use Rattle.explicit.specs.Flat.{IsFlat}
use Rattle.compress.specs.Laid.{start_at, remaining_before, stack_of, few_and_rest, level_by, AreFew, AreSpread, ResolvesFrom}
use Rattle.compress.specs.Paragraph.{placed}
use Rattle.compress.specs.Remaining.{stays, remaining_units}
use Rattle.compress.specs.Spread.{spread, ones}
use Rattle.compress.specs.Squeeze.{counts_onto}
use Rattle.compress.proofs.Counting.{at}
use Rattle.compress.proofs.Leading.{few_levels, length-few_levels, levels_of_all, levels_of_few}
use Rattle.compress.proofs.Placing.{IsBelow, length-placed, level_by-removed, placed_at, spread_at, spread_beyond}
use Rattle.compress.proofs.Spreading.{ones-length, spread-ones}

-- how many remain before a position after another
remaining_after : (us : List BidiUnit) (end n : ℕ) → end + n ≤ length us → remaining_before us (end + n) ≡ remaining_before us end + remaining_before (drop end us) n
remaining_after us end zero le =
    let z : end + 0 ≡ end = omega arith in
    let f = ap (remaining_before us) z in
    omega arith
remaining_after us end (suc n) le =
    let h = remaining_after us end n (omega arith) in
    let a = length-filter_more stays us (end + n) no_unit (omega arith) in
    let b = length-filter_more stays (drop end us) n no_unit (omega (arith, length-drop end us)) in
    let c : remaining_before (drop end us) n + cond (stays (at (drop end us) n)) 1 0 ≡ remaining_before (drop end us) n + cond (stays (at us (end + n))) 1 0 =
    ap (λ (u : BidiUnit). remaining_before (drop end us) n + cond (stays u) 1 0) (get_or-drop end us n no_unit) in
    let y : end + suc n ≡ end + n + 1 = omega arith in
    let z : suc n ≡ n + 1 = omega arith in
    let f = ap (remaining_before us) y in
    let g = ap (remaining_before (drop end us)) z in
    omega arith

-- levels by columns that are alike up to m
level_by-alike : (us starts : List BidiUnit) (a b : List (Option ℕ)) (m p : ℕ) → ((k : ℕ) → k < m → slice_index_or a k None ≡ slice_index_or b k None) →
    level_by us starts a m p ≡ level_by us starts b m p
level_by-alike us starts a b zero p h = refl
level_by-alike us starts a b (suc m) p h =
    ap (λ (o : Option ℕ). if ltb p (start_at starts m) then o else (if is_removed (at us p).class then None else slice_index_or a m None))
    (level_by-alike us starts a b m p (λ k lt. h k (omega arith)))
    ∙ ap (λ (o : Option ℕ). if ltb p (start_at starts m) then level_by us starts b m p else (if is_removed (at us p).class then None else o)) (h m (omega arith))

module _ (limits : LimitsOf) (us chosen starts : List BidiUnit) (m end para : ℕ) (flat : IsFlat (classes_of us))
    (few : AreFew (direction_of para) us chosen starts m end) (old : List (Option ℕ))
    (is : old ≡ resolved_levels limits (few_and_rest us chosen m end) para) where
  abbrev later : List BidiUnit
  later = remaining_units (drop end us)

  abbrev ls : List ℕ
  ls = few_levels limits us chosen starts m end para flat few

  abbrev all : List (Option ℕ)
  all = map (λ l. Some l) ls

  abbrev counts : List ℕ
  counts = counts_onto (stack_of us chosen starts m end) (ones later)

  -- all levels by what remains
  abbrev levels_of : List (Option ℕ)
  levels_of = spread counts all

  long : length ls ≡ m + length later
  long = length-few_levels limits us chosen starts m end para flat few

  all_long : length all ≡ m + length later
  all_long = length-map ls (λ l. Some l) ∙ long

  front_long : length (map (λ l. Some l) (take m ls)) ≡ m
  front_long = length-map (take m ls) (λ l. Some l) ∙ length-take-le m ls (omega (arith, long))

  -- the column that was resolved
  old_at : (k : ℕ) → slice_index_or old k None ≡ slice_index_or (map (λ l. Some l) (take m ls) ++ placed (drop end us) (map (λ l. Some l) (drop m ls))) k None
  old_at k = ap (λ (vs : List (Option ℕ)). slice_index_or vs k None) (is ∙ levels_of_few limits us chosen starts m end para flat few)

  chosen_at : (k : ℕ) → k < m → slice_index_or old k None ≡ slice_index_or all k None
  chosen_at k lt =
      old_at k
      ∙ get_or_append_left (map (λ l. Some l) (take m ls)) (placed (drop end us) (map (λ l. Some l) (drop m ls))) None k (omega (arith, front_long))
      ∙ ap (λ (vs : List (Option ℕ)). slice_index_or vs k None) (sym (take-map (λ l. Some l) m ls))
      ∙ get_or-take m all k None lt

  rest_at : (r : ℕ) → r < length us - end → slice_index_or old (m + r) None ≡ slice_index_or (placed (drop end us) (drop m all)) r None
  rest_at r lt =
      let z : (m + r) - m ≡ r = omega arith in
      old_at (m + r)
      ∙ get_or-append_right (map (λ l. Some l) (take m ls)) (placed (drop end us) (map (λ l. Some l) (drop m ls))) m (m + r) None front_long (omega arith)
      ∙ ap (λ i. slice_index_or (placed (drop end us) (map (λ l. Some l) (drop m ls))) i None) z
      ∙ sym (ap (λ vs. slice_index_or (placed (drop end us) vs) r None) (drop-map (λ l. Some l) m ls))

  below : IsBelow us chosen starts all m end
  below = record { low = few.laid.rising.low; rise = few.laid.rising.rise; within = few.laid.end_within; none = few.laid.none_before }

  -- before that position
  level_before : (p : ℕ) → p < end → level_by us starts old m p ≡ slice_index_or (placed us levels_of) p None
  level_before p lt =
      let within = few.laid.end_within in
      level_by-alike us starts old all m p chosen_at
      ∙ sym (placed_at us levels_of p (omega arith) ∙ elim (cases_Bool (is_removed (at us p).class)) [
        | inl t ↦ cond-false (stays (at us p)) (slice_index_or levels_of (remaining_before us p) None) None (ap not t)
            ∙ sym (level_by-removed us chosen starts all m p t)
        | inr f ↦ cond-true (stays (at us p)) (slice_index_or levels_of (remaining_before us p) None) None (ap not f)
            ∙ spread_at us chosen starts all m end (ones later) p (omega (arith, all_long)) below lt f
      ])

  -- from it on
  later_at : (r : ℕ) → slice_index_or levels_of (remaining_before us end + r) None ≡ slice_index_or (drop m all) r None
  later_at r =
      spread_beyond us chosen starts all m end (ones later) r (omega (arith, all_long)) below
      ∙ ap (λ ws. slice_index_or (spread ws (drop m all)) r None) (ones-length later (drop m all) (omega (arith, all_long, length-drop m all)))
      ∙ ap (λ (vs : List (Option ℕ)). slice_index_or vs r None) (spread-ones (drop m all))

  level_after : (r : ℕ) → end + r < length us → slice_index_or old (m + r) None ≡ slice_index_or (placed us levels_of) (end + r) None
  level_after r lt =
      let here : at (drop end us) r ≡ at us (end + r) = get_or-drop end us r no_unit in
      let before = remaining_after us end r (omega arith) in
      rest_at r (omega arith)
      ∙ placed_at (drop end us) (drop m all) r (omega (arith, length-drop end us))
      ∙ ap (λ (o : Option ℕ). if stays (at (drop end us) r) then o else None) (sym (later_at (remaining_before (drop end us) r)) ∙ ap (λ i. slice_index_or levels_of i None) (sym before))
      ∙ ap (λ (u : BidiUnit). if stays u then slice_index_or levels_of (remaining_before us (end + r)) None else None) here
      ∙ sym (placed_at us levels_of (end + r) lt)

  resolved : (levels : List (Option ℕ)) → length levels ≡ length us → AreSpread us starts m end old levels → levels ≡ resolved_levels limits us para
  resolved levels n spread_so =
      let same = length-placed us levels_of in
      ext_get_or None levels (placed us levels_of) (omega arith) (λ p lt.
      elim (cases_lt p end) [
        | inl before ↦ spread_so.before p before ∙ level_before p before
        | inr after ↦
            (let z : end + (p - end) ≡ p = omega arith in
            spread_so.after p after (omega arith) ∙ level_after (p - end) (omega arith) ∙ ap (λ i. slice_index_or (placed us levels_of) i None) z)
      ])
      ∙ sym (levels_of_all limits us chosen starts m end para flat few)

pub spread_resolves : (us starts : List BidiUnit) (m end : ℕ) (old levels : List (Option ℕ)) → length levels ≡ length us → AreSpread us starts m end old levels →
    ResolvesFrom us starts m end old levels
spread_resolves us starts m end old levels n spread_so limits para chosen flat few is = resolved limits us chosen starts m end para flat few old is levels n spread_so

-- the levels of the chosen units were copied to the start first, from before those of the units after that position
pub spread_copied : (us starts : List BidiUnit) (m end : ℕ) (old copied levels : List (Option ℕ)) → m ≤ end →
    ((k : ℕ) → k < m → slice_index_or copied k None ≡ slice_index_or old (end - m + k) None) →
    ((p : ℕ) → end ≤ p → slice_index_or copied p None ≡ slice_index_or old p None) →
    ((p : ℕ) → p < end → slice_index_or levels p None ≡ level_by us starts copied m p) →
    ((p : ℕ) → end ≤ p → slice_index_or levels p None ≡ slice_index_or copied p None) → AreSpread us starts m end (drop (end - m) old) levels
spread_copied us starts m end old copied levels le front back written unchanged = record {
  before = λ p lt.
      written p lt
      ∙ level_by-alike us starts copied (drop (end - m) old) m p (λ k lt. front k lt ∙ sym (get_or-drop (end - m) old k None));
  after = λ p ge lt.
      let z : end - m + (m + (p - end)) ≡ p = omega arith in
      unchanged p ge ∙ back p ge ∙ sym (get_or-drop (end - m) old (m + (p - end)) None ∙ ap (λ i. slice_index_or old i None) z);
}

-- the column in its two parts, front and back, of which the first has those levels at its start now
pub spread_split : (us starts : List BidiUnit) (m end : ℕ) (old part front back levels : List (Option ℕ)) → m + m ≤ end → end ≤ length old →
    front ≡ take (end - m) old → back ≡ drop (end - m) old → part ≡ take m back →
    ((p : ℕ) → p < end → slice_index_or levels p None ≡ level_by us starts ((part ++ drop m front) ++ back) m p) →
    ((p : ℕ) → end ≤ p → slice_index_or levels p None ≡ slice_index_or ((part ++ drop m front) ++ back) p None) → AreSpread us starts m end (drop (end - m) old) levels
spread_split us starts m end old part front back levels half within f b e written unchanged =
    let front_long : length front ≡ end - m = ap length f ∙ length-take-le (end - m) old (omega arith) in
    let back_long : length back ≡ length old - (end - m) = ap length b ∙ length-drop (end - m) old in
    let part_long : length part ≡ m = ap length e ∙ length-take-le m back (omega arith) in
    let rest_long : length (drop m front) ≡ length front - m = length-drop m front in
    let both_long : length (part ++ drop m front) ≡ end - m = omega (arith, length-append part (drop m front), part_long, rest_long, front_long) in
    spread_copied us starts m end old ((part ++ drop m front) ++ back) levels (omega arith)
    (λ k lt.
    get_or_append_left (part ++ drop m front) back None k (omega arith)
    ∙ get_or_append_left part (drop m front) None k (omega arith)
    ∙ ap (λ (vs : List (Option ℕ)). slice_index_or vs k None) e
    ∙ get_or-take m back k None lt
    ∙ ap (λ (vs : List (Option ℕ)). slice_index_or vs k None) b
    ∙ get_or-drop (end - m) old k None)
    (λ p ge.
    let z : end - m + (p - (end - m)) ≡ p = omega arith in
    get_or-append_right (part ++ drop m front) back (end - m) p None both_long (omega arith)
    ∙ ap (λ (vs : List (Option ℕ)). slice_index_or vs (p - (end - m)) None) b
    ∙ get_or-drop (end - m) old (p - (end - m)) None
    ∙ ap (λ i. slice_index_or old i None) z)
    written unchanged

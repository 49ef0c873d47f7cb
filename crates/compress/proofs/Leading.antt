-- The levels of a flat paragraph by the units that were chosen before a position, and by all units from it on.
use Rattle.std.specs.Prelude.{Some, None, ℕ, zero, suc, ◌+◌, ◌≤◌, Bool, true, ◌&&◌, ◌≡◌, List, [], ◌∷◌, ◌++◌, length, map, take, drop, refl}
use Rattle.std.specs.List.{list_all}
use Rattle.std.proofs.Common.{arith, ap, sym, ◌∙◌, inl, inr}
use Rattle.std.proofs.lemmas.Bool.{cases_Bool, cond-true, cond-false}
use Rattle.std.proofs.lemmas.List.{append-nil, append_assoc, length-append, length-take-le, take_more}
use Rattle.units.specs.Classes.{classes_of}
use Rattle.units.specs.Layout.{no_unit, resolved_levels}
use Rattle.units.specs.Limits.{LimitsOf}
use Rattle.units.specs.Runs.{direction_of}
use Rattle.units.specs.declared.bracket.Unit.{Unit as BidiUnit}
use Rattle.units.specs.declared.class.Class.{Class}
use Rattle.units.specs.declared.class.Class.TheVariants.{S, WS, ON}
use Rattle.explicit.specs.Flat.{IsFlat, is_flat, is_remaining}
use Rattle.compress.specs.Laid.{start_at, stack_of, few_and_rest, AreFew}
use Rattle.compress.specs.Paragraph.{placed}
use Rattle.compress.specs.Remaining.{stays, remaining_units, by_remaining, at_level}
use Rattle.compress.specs.Spread.{is_space, spread, ones}
use Rattle.compress.specs.Squeeze.{Stack, is_bare, is_one_way, joins, is_between, popped, added, next_for, turned, first_unit, squeezed, units_onto, counts_onto}
use Rattle.compress.proofs.Bracketed.{unit_levels}
use Rattle.compress.proofs.Counting.{at}
use Rattle.compress.proofs.Few.{fine, fine_unit, remaining_fine, map-spread, placed-some, ok_onto, ok_squeezed}
use Rattle.compress.proofs.Removed.{resolved_levels-remaining}
use Rattle.compress.proofs.Sound.{both_parts, join_parts}
use Rattle.compress.proofs.Squeezed.{length-unit_levels, leading_paragraph}

-- what holds of spaces and of the classes of a stack holds of those of each stack that leads to it
module _ (ok : Class → Bool) (segment : ok S ≡ true) (white : ok WS ≡ true) (other : ok ON ≡ true) where
  abbrev ok_in : Stack → Bool
  ok_in stack = list_all (λ top. ok top.0.class) stack

  ok_space : (c : Class) → is_space c ≡ true → ok c ≡ true
  ok_space S h = segment
  ok_space WS h = white
  ok_space ON h = other
  ok_space c h = cc

  ok_unpopped : (stack : Stack) (u : BidiUnit) → ok_in (popped stack u) ≡ true → ok_in stack ≡ true
  ok_unpopped [] u h = h
  ok_unpopped (d ∷ []) u h = h
  ok_unpopped (d ∷ c ∷ back) u h =
      let less : Stack = (c.0, c.1 + d.1) ∷ back in
      let all : Stack = d ∷ c ∷ back in
      elim (cases_Bool (is_between c.0 d.0 u)) [
        | inl t ↦
            (let rest : ok_in ((c.0, c.1 + d.1) ∷ back) ≡ true = sym (ap ok_in (cond-true (is_between c.0 d.0 u) less all t)) ∙ h in
            let p = both_parts (is_bare d.0.bracket && is_bare c.0.bracket) (is_space d.0.class && is_one_way c.0.class u.class) t in
            let space = (both_parts (is_space d.0.class) (is_one_way c.0.class u.class) p.1).0 in
            join_parts (ok d.0.class) (ok c.0.class && ok_in back) (ok_space d.0.class space) rest)
        | inr f ↦ sym (ap ok_in (cond-false (is_between c.0 d.0 u) less all f)) ∙ h
      ]

  ok_unadded : (direction : Class) (stack : Stack) (u : BidiUnit) → ok_in (added direction stack u) ≡ true → ok_in stack ≡ true
  ok_unadded direction [] u h = refl
  ok_unadded direction (c ∷ back) u h =
      let less : Stack = (c.0, c.1 + 1) ∷ back in
      let all : Stack = (u, 1) ∷ c ∷ back in
      elim (cases_Bool (joins direction c.0 u)) [
        | inl t ↦ sym (ap ok_in (cond-true (joins direction c.0 u) less all t)) ∙ h
        | inr f ↦
            (let rest : ok_in ((u, 1) ∷ c ∷ back) ≡ true = sym (ap ok_in (cond-false (joins direction c.0 u) less all f)) ∙ h in
            (both_parts (ok u.class) (ok_in (c ∷ back)) rest).1)
      ]

  pub ok_leading : (direction sos : Class) (stack : Stack) (tail : List BidiUnit) → list_all (λ top. ok top.0.class) (squeezed direction sos stack tail) ≡ true →
      list_all (λ top. ok top.0.class) stack ≡ true
  ok_leading direction sos stack [] h = h
  ok_leading direction sos stack (u ∷ tail) h =
      let n : Class = (first_unit tail).class in
      let v : BidiUnit = next_for sos stack u n in
      ok_unpopped stack v (ok_unadded direction (popped stack v) v (ok_leading direction sos (turned direction sos stack u n) tail h))

-- the units of a stack, in order, before others
units_onto-taken : (us chosen starts : List BidiUnit) (m end : ℕ) (after : List BidiUnit) → m ≤ length chosen → units_onto (stack_of us chosen starts m end) after ≡ take m chosen ++ after
units_onto-taken us chosen starts zero end after le = refl
units_onto-taken us chosen starts (suc m) end after le =
    let more : suc m ≡ m + 1 = omega arith in
    units_onto-taken us chosen starts m (start_at starts m) (at chosen m ∷ after) (omega arith)
    ∙ sym (ap (λ n. take n chosen ++ after) more ∙ ap (λ xs. xs ++ after) (take_more chosen m no_unit le) ∙ append_assoc (take m chosen) (at chosen m ∷ []) after)

-- units that remain and begin nothing, before others of a flat paragraph
flat_onto : (cs rest : List BidiUnit) → list_all fine_unit cs ≡ true → IsFlat (classes_of rest) → IsFlat (classes_of (cs ++ rest))
flat_onto [] rest h flat k d lt = flat k d lt
flat_onto (u ∷ cs) rest h flat zero d lt = (both_parts (is_flat u.class) (is_remaining u.class) (both_parts (fine u.class) (list_all fine_unit cs) h).0).0
flat_onto (u ∷ cs) rest h flat (suc k) d lt = flat_onto cs rest (both_parts (fine u.class) (list_all fine_unit cs) h).1 flat k d (omega arith)

flat_dropped : (us : List BidiUnit) (end : ℕ) → IsFlat (classes_of us) → IsFlat (classes_of (drop end us))
flat_dropped us zero flat k d lt = flat k d lt
flat_dropped [] (suc e) flat k d lt = absurd (omega arith)
flat_dropped (u ∷ us) (suc e) flat k d lt = flat_dropped us e (λ k d lt. flat (suc k) d (omega arith)) k d lt

remaining_onto : (cs rest : List BidiUnit) → list_all fine_unit cs ≡ true → remaining_units (cs ++ rest) ≡ cs ++ remaining_units rest
remaining_onto [] rest h = refl
remaining_onto (u ∷ cs) rest h =
    let p = both_parts (fine u.class) (list_all fine_unit cs) h in
    let t : stays u ≡ true = (both_parts (is_flat u.class) (is_remaining u.class) p.0).1 in
    cond-true (stays u) (u ∷ remaining_units (cs ++ rest)) (remaining_units (cs ++ rest)) t ∙ ap (λ us. u ∷ us) (remaining_onto cs rest p.1)

by_remaining_onto : (cs rest : List BidiUnit) (ls : List ℕ) → list_all fine_unit cs ≡ true → length cs ≤ length ls →
    by_remaining (cs ++ rest) ls ≡ map (λ l. Some l) (take (length cs) ls) ++ by_remaining rest (drop (length cs) ls)
by_remaining_onto [] rest ls h le = refl
by_remaining_onto (u ∷ cs) rest [] h le = absurd (omega arith)
by_remaining_onto (u ∷ cs) rest (l ∷ ls) h le =
    let p = both_parts (fine u.class) (list_all fine_unit cs) h in
    let t : stays u ≡ true = (both_parts (is_flat u.class) (is_remaining u.class) p.0).1 in
    cond-true (stays u) (Some l ∷ by_remaining (cs ++ rest) ls) (None ∷ by_remaining (cs ++ rest) (l ∷ ls)) t
    ∙ ap (λ vs. Some l ∷ vs) (by_remaining_onto cs rest ls p.1 (omega arith))

module _ (limits : LimitsOf) (us chosen starts : List BidiUnit) (m end para : ℕ) (flat : IsFlat (classes_of us))
    (few : AreFew (direction_of para) us chosen starts m end) where
  abbrev direction : Class
  direction = direction_of para

  abbrev stack : Stack
  stack = stack_of us chosen starts m end

  -- the units that remain from this position on
  abbrev pub later : List BidiUnit
  later = remaining_units (drop end us)

  -- the levels of the chosen units and of these
  abbrev pub few_levels : List ℕ
  few_levels = unit_levels limits.brackets (at_level para) (take m chosen ++ remaining_units (drop end us))

  pub length-few_levels : length few_levels ≡ m + length later
  length-few_levels =
      length-unit_levels limits.brackets (at_level para) (take m chosen ++ later) ∙ length-append (take m chosen) later
      ∙ ap (λ n. n + length later) (length-take-le m chosen few.fits)

  onto : (after : List BidiUnit) → units_onto (stack_of us chosen starts m end) after ≡ take m chosen ++ after
  onto after = units_onto-taken us chosen starts m end after few.fits

  -- all levels, by these
  pub levels_of_all : resolved_levels limits us para ≡ placed us (spread (counts_onto (stack_of us chosen starts m end) (ones later)) (map (λ l. Some l) few_levels))
  levels_of_all =
      let ws : List ℕ = counts_onto (stack_of us chosen starts m end) (ones later) in
      leading_paragraph limits us para stack end flat few.leads
      ∙ ap (λ vs. by_remaining us (spread ws (unit_levels limits.brackets (at_level para) vs))) (onto later)
      ∙ sym (ap (placed us) (map-spread ws few_levels) ∙ placed-some us (spread ws few_levels))

  fine_chosen : list_all fine_unit (take m chosen) ≡ true
  fine_chosen =
      let done : list_all (λ top. fine top.0.class) (squeezed direction direction [] (remaining_units us)) ≡ true =
      ok_squeezed fine refl refl refl refl refl refl refl direction direction [] (remaining_units us) refl (remaining_fine us flat) in
      let now : list_all (λ top. fine top.0.class) stack ≡ true =
      ok_leading fine refl refl refl direction direction stack later (ap (λ (st : Stack). list_all (λ top. fine top.0.class) st) few.leads ∙ done) in
      sym (ap (list_all fine_unit) (onto [] ∙ append-nil (take m chosen))) ∙ ok_onto fine refl refl refl refl refl refl refl stack [] now refl

  -- the levels of the paragraph that is resolved in place of it
  pub levels_of_few : resolved_levels limits (few_and_rest us chosen m end) para ≡ map (λ l. Some l) (take m few_levels) ++ placed (drop end us) (map (λ l. Some l) (drop m few_levels))
  levels_of_few =
      let cs : List BidiUnit = take m chosen in
      let rest : List BidiUnit = drop end us in
      let long : length (take m chosen) ≡ m = length-take-le m chosen few.fits in
      let enough = length-few_levels in
      resolved_levels-remaining limits (cs ++ rest) para (flat_onto cs rest fine_chosen (flat_dropped us end flat))
      ∙ ap (λ vs. by_remaining (cs ++ rest) (unit_levels limits.brackets (at_level para) vs)) (remaining_onto cs rest fine_chosen)
      ∙ by_remaining_onto cs rest few_levels fine_chosen (omega arith)
      ∙ ap (λ n. map (λ l. Some l) (take n few_levels) ++ by_remaining rest (drop n few_levels)) long
      ∙ sym (ap (λ vs. map (λ l. Some l) (take m few_levels) ++ vs) (placed-some rest (drop m few_levels)))

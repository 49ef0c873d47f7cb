-- The levels of a flat paragraph are those of the few units that the pass keeps.
use Rattle.std.specs.Prelude.{Some, None, ℕ, zero, suc, ◌+◌, Bool, true, false, ◌&&◌, ◌||◌, ◌≡◌, List, [], ◌∷◌, ◌++◌, length, map, if◌then◌else◌, refl}
use Rattle.std.specs.List.{list_all}
use Rattle.std.proofs.Common.{arith, ap, sym, ◌∙◌, inl, inr}
use Rattle.std.proofs.lemmas.Bool.{cases_Bool, cond-true, cond-false}
use Rattle.units.specs.Classes.{classes_of}
use Rattle.units.specs.Layout.{resolved_levels}
use Rattle.units.specs.Limits.{LimitsOf}
use Rattle.units.specs.Runs.{direction_of}
use Rattle.units.specs.declared.bracket.Unit.{Unit as BidiUnit}
use Rattle.units.specs.declared.class.Class.{Class}
use Rattle.units.specs.declared.class.Class.TheVariants.{L, EN, ES, ET, AN, CS, ON}
use Rattle.explicit.specs.Flat.{IsFlat, is_flat, is_remaining}
use Rattle.compress.specs.Paragraph.{placed, chosen_of, few_units, few_counts, ResolvesByFew}
use Rattle.compress.specs.Remaining.{stays, remaining_units, by_remaining, at_level}
use Rattle.compress.specs.Spread.{copies, spread, is_quiet, is_firm, is_still, is_apart, is_no_number}
use Rattle.compress.specs.Squeeze.{Stack, is_bare, is_directed, joins, is_between, comma_between, class_for, unit_for, known_after, popped, added, next_for, turned, first_unit, squeezed, units_onto}
use Rattle.compress.proofs.Bracketed.{unit_levels}
use Rattle.compress.proofs.Removed.{resolved_levels-remaining}
use Rattle.compress.proofs.Sound.{both_parts, join_parts}
use Rattle.compress.proofs.Squeezed.{length-unit_levels, squeezed_paragraph}

-- what holds of the classes of a paragraph, and of those that replace them, holds of the few
module _ (ok : Class → Bool) (l : ok L ≡ true) (en : ok EN ≡ true) (es : ok ES ≡ true) (et : ok ET ≡ true) (an : ok AN ≡ true) (cs : ok CS ≡ true)
    (on : ok ON ≡ true) where
  abbrev pub ok_unit : BidiUnit → Bool
  ok_unit u = ok u.class

  -- stacks of such ones
  abbrev pub ok_stack : Stack → Bool
  ok_stack stack = list_all (λ top. ok top.0.class) stack

  ok_if : (b : Bool) (c d : Class) → ok c ≡ true → ok d ≡ true → ok (if b then c else d) ≡ true
  ok_if true c d h g = h
  ok_if false c d h g = g

  ok_comma : (c n : Class) → ok (comma_between c n) ≡ true
  ok_comma EN EN = en
  ok_comma AN AN = an
  ok_comma c n = cs

  ok_stand_in : (s c u n : Class) → ok u ≡ true → ok (class_for s c u n) ≡ true
  ok_stand_in s c CS n h = ok_if (is_quiet c || (is_firm c && is_no_number n)) ON (comma_between c n) on (ok_comma c n)
  ok_stand_in s c ES n h = ok_if (is_quiet c || (is_firm c && is_no_number n)) ON ES on es
  ok_stand_in s c ET n h = ok_if (is_quiet c && is_still n) ON ET on et
  ok_stand_in s c EN n h = ok_if ((is_quiet c && is_directed L s) && is_apart n) L EN l en
  ok_stand_in s c u n h = h

  ok_unit_for : (s : Class) (c u : BidiUnit) (n : Class) → ok u.class ≡ true → ok (unit_for s c u n).class ≡ true
  ok_unit_for s c u n h =
      let v : BidiUnit = record { class = class_for s c.class u.class n; bracket = u.bracket } in
      elim (cases_Bool (is_bare u.bracket)) [
        | inl t ↦ ap (λ (w : BidiUnit). ok w.class) (cond-true (is_bare u.bracket) v u t) ∙ ok_stand_in s c.class u.class n h
        | inr f ↦ ap (λ (w : BidiUnit). ok w.class) (cond-false (is_bare u.bracket) v u f) ∙ h
      ]

  pub ok_next_for : (sos : Class) (stack : Stack) (u : BidiUnit) (n : Class) → ok u.class ≡ true → ok (next_for sos stack u n).class ≡ true
  ok_next_for sos [] u n h = h
  ok_next_for sos (c ∷ back) u n h = ok_unit_for (known_after sos (c ∷ back)).strong c.0 u n h

  pub ok_popped : (stack : Stack) (u : BidiUnit) → ok_stack stack ≡ true → ok_stack (popped stack u) ≡ true
  ok_popped [] u h = h
  ok_popped (d ∷ []) u h = h
  ok_popped (d ∷ c ∷ back) u h =
      let less : Stack = (c.0, c.1 + d.1) ∷ back in
      let all : Stack = d ∷ c ∷ back in
      elim (cases_Bool (is_between c.0 d.0 u)) [
        | inl t ↦ ap ok_stack (cond-true (is_between c.0 d.0 u) less all t) ∙ (both_parts (ok d.0.class) (ok c.0.class && ok_stack back) h).1
        | inr f ↦ ap ok_stack (cond-false (is_between c.0 d.0 u) less all f) ∙ h
      ]

  pub ok_added : (direction : Class) (stack : Stack) (u : BidiUnit) → ok_stack stack ≡ true → ok u.class ≡ true → ok_stack (added direction stack u) ≡ true
  ok_added direction [] u h g = join_parts (ok u.class) true g refl
  ok_added direction (c ∷ back) u h g =
      let less : Stack = (c.0, c.1 + 1) ∷ back in
      let all : Stack = (u, 1) ∷ c ∷ back in
      elim (cases_Bool (joins direction c.0 u)) [
        | inl t ↦ ap ok_stack (cond-true (joins direction c.0 u) less all t) ∙ h
        | inr f ↦ ap ok_stack (cond-false (joins direction c.0 u) less all f) ∙ join_parts (ok u.class) (ok_stack (c ∷ back)) g h
      ]

  pub ok_squeezed : (direction sos : Class) (stack : Stack) (tail : List BidiUnit) → ok_stack stack ≡ true → list_all ok_unit tail ≡ true → ok_stack (squeezed direction sos stack tail) ≡ true
  ok_squeezed direction sos stack [] h g = h
  ok_squeezed direction sos stack (u ∷ tail) h g =
      let p = both_parts (ok u.class) (list_all ok_unit tail) g in
      let n : Class = (first_unit tail).class in
      let v : BidiUnit = next_for sos stack u n in
      let v_fine : ok (next_for sos stack u (first_unit tail).class).class ≡ true = ok_next_for sos stack u n p.0 in
      ok_squeezed direction sos (turned direction sos stack u n) tail (ok_added direction (popped stack v) v (ok_popped stack v h) v_fine) p.1

  pub ok_onto : (stack : Stack) (us : List BidiUnit) → ok_stack stack ≡ true → list_all ok_unit us ≡ true → list_all ok_unit (units_onto stack us) ≡ true
  ok_onto [] us h g = g
  ok_onto (top ∷ back) us h g =
      let p = both_parts (ok top.0.class) (ok_stack back) h in
      ok_onto back (top.0 ∷ us) p.1 (join_parts (ok top.0.class) (list_all ok_unit us) p.0 g)

-- a class that remains and begins nothing
abbrev pub fine : Class → Bool
fine c = is_flat c && is_remaining c

abbrev pub fine_unit : BidiUnit → Bool
fine_unit u = fine u.class

-- flat, and by a test
pub remaining_fine : (us : List BidiUnit) → IsFlat (classes_of us) → list_all fine_unit (remaining_units us) ≡ true
remaining_fine [] flat = refl
remaining_fine (u ∷ us) flat =
    let here : is_flat u.class ≡ true = flat 0 L (omega arith) in
    let later : list_all fine_unit (remaining_units us) ≡ true = remaining_fine us (λ k d lt. flat (suc k) d (omega arith)) in
    elim (cases_Bool (stays u)) [
      | inl t ↦
          ap (list_all fine_unit) (cond-true (stays u) (u ∷ remaining_units us) (remaining_units us) t)
          ∙ join_parts (fine u.class) (list_all fine_unit (remaining_units us)) (join_parts (is_flat u.class) (is_remaining u.class) here t) later
      | inr f ↦ ap (list_all fine_unit) (cond-false (stays u) (u ∷ remaining_units us) (remaining_units us) f) ∙ later
    ]

fine_flat : (us : List BidiUnit) → list_all fine_unit us ≡ true → IsFlat (classes_of us)
fine_flat [] h k d lt = absurd (omega arith)
fine_flat (u ∷ us) h zero d lt = (both_parts (is_flat u.class) (is_remaining u.class) (both_parts (fine u.class) (list_all fine_unit us) h).0).0
fine_flat (u ∷ us) h (suc k) d lt = fine_flat us (both_parts (fine u.class) (list_all fine_unit us) h).1 k d (omega arith)

-- where all remain
pub fine_remain : (us : List BidiUnit) → list_all fine_unit us ≡ true → remaining_units us ≡ us
fine_remain [] h = refl
fine_remain (u ∷ us) h =
    let p = both_parts (fine u.class) (list_all fine_unit us) h in
    let t : stays u ≡ true = (both_parts (is_flat u.class) (is_remaining u.class) p.0).1 in
    cond-true (stays u) (u ∷ remaining_units us) (remaining_units us) t ∙ ap (λ us. u ∷ us) (fine_remain us p.1)

fine_levels : (us : List BidiUnit) (ls : List ℕ) → list_all fine_unit us ≡ true → length ls ≡ length us → by_remaining us ls ≡ map (λ l. Some l) ls
fine_levels [] [] h n = refl
fine_levels [] (l ∷ ls) h n = absurd (omega arith)
fine_levels (u ∷ us) [] h n = absurd (omega arith)
fine_levels (u ∷ us) (l ∷ ls) h n =
    let p = both_parts (fine u.class) (list_all fine_unit us) h in
    let t : stays u ≡ true = (both_parts (is_flat u.class) (is_remaining u.class) p.0).1 in
    let m : length ls ≡ length us = omega arith in
    cond-true (stays u) (Some l ∷ by_remaining us ls) (None ∷ by_remaining us (l ∷ ls)) t ∙ ap (λ vs. Some l ∷ vs) (fine_levels us ls p.1 m)

-- levels that are spread
map-copies : (w : ℕ) (l : ℕ) (ls : List ℕ) → map (λ l. Some l) (copies w l ++ ls) ≡ copies w (Some l) ++ map (λ l. Some l) ls
map-copies zero l ls = refl
map-copies (suc w) l ls = ap (λ vs. Some l ∷ vs) (map-copies w l ls)

pub map-spread : (ws ls : List ℕ) → spread ws (map (λ l. Some l) ls) ≡ map (λ l. Some l) (spread ws ls)
map-spread [] ls = refl
map-spread (w ∷ ws) [] = refl
map-spread (w ∷ ws) (l ∷ ls) = ap (λ vs. copies w (Some l) ++ vs) (map-spread ws ls) ∙ sym (map-copies w l (spread ws ls))

pub placed-some : (us : List BidiUnit) (ls : List ℕ) → placed us (map (λ l. Some l) ls) ≡ by_remaining us ls
placed-some [] ls = refl
placed-some (u ∷ us) [] =
    ap (λ vs. if stays u then (None ∷ vs) else None ∷ placed us []) (placed-some us [])
    ∙ ap (λ vs. if stays u then (None ∷ by_remaining us []) else None ∷ vs) (placed-some us [])
placed-some (u ∷ us) (l ∷ ls) =
    ap (λ vs. if stays u then (Some l ∷ vs) else None ∷ placed us (map (λ l. Some l) (l ∷ ls))) (placed-some us ls)
    ∙ ap (λ vs. if stays u then (Some l ∷ by_remaining us ls) else None ∷ vs) (placed-some us (l ∷ ls))

few_fine : (us : List BidiUnit) (para : ℕ) → IsFlat (classes_of us) → list_all fine_unit (few_units us para) ≡ true
few_fine us para flat =
    ok_onto fine refl refl refl refl refl refl refl (chosen_of us para) []
    (ok_squeezed fine refl refl refl refl refl refl refl (direction_of para) (direction_of para) [] (remaining_units us) refl (remaining_fine us flat)) refl

fine_all : (us : List BidiUnit) → list_all fine_unit us ≡ true → list_all is_flat (classes_of us) ≡ true
fine_all [] h = refl
fine_all (u ∷ us) h =
    let p = both_parts (fine u.class) (list_all fine_unit us) h in
    join_parts (is_flat u.class) (list_all is_flat (classes_of us)) (both_parts (is_flat u.class) (is_remaining u.class) p.0).0 (fine_all us p.1)

-- the few are flat too
pub few_flat : (us : List BidiUnit) (para : ℕ) → IsFlat (classes_of us) → list_all is_flat (classes_of (few_units us para)) ≡ true
few_flat us para flat = fine_all (few_units us para) (few_fine us para flat)

pub resolves_by_few : (limits : LimitsOf) (us : List BidiUnit) (para : ℕ) → IsFlat (classes_of us) → ResolvesByFew limits us para
resolves_by_few limits us para flat =
    let d : Class = direction_of para in
    let few : List BidiUnit = few_units us para in
    let ws : List ℕ = few_counts us para in
    let levels : List BidiUnit → List ℕ = unit_levels limits.brackets (at_level para) in
    let fine_few : list_all fine_unit (few_units us para) ≡ true =
    few_fine us para flat in
    let of_few : resolved_levels limits (few_units us para) para ≡ map (λ l. Some l) (unit_levels limits.brackets (at_level para) (few_units us para)) =
    resolved_levels-remaining limits few para (fine_flat few fine_few)
    ∙ ap (λ vs. by_remaining few (unit_levels limits.brackets (at_level para) vs)) (fine_remain few fine_few)
    ∙ fine_levels few (unit_levels limits.brackets (at_level para) few) fine_few (length-unit_levels limits.brackets (at_level para) few) in
    squeezed_paragraph limits us para flat
    ∙ sym (ap (λ vs. placed us (spread ws vs)) of_few
    ∙ ap (placed us) (map-spread ws (unit_levels limits.brackets (at_level para) few))
    ∙ placed-some us (spread ws (unit_levels limits.brackets (at_level para) few)))

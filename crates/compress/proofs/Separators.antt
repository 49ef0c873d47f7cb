-- A separator is chosen, and comes last.
use Rattle.std.specs.Prelude.{ℕ, Bool, true, false, not, ◌≡◌, List, [], ◌∷◌, refl}
use Rattle.std.proofs.Common.{◌+◌, ap, sym, subst, inl, inr}
use Rattle.std.proofs.lemmas.Bool.{cases_Bool, cond-true, cond-false}
use Rattle.units.specs.Classes.{is_separator}
use Rattle.units.specs.Paragraphs.{SeparatorOnlyLast}
use Rattle.units.specs.Runs.{direction_of}
use Rattle.units.specs.declared.bracket.Unit.{Unit as BidiUnit}
use Rattle.units.specs.declared.class.Class.{Class}
use Rattle.explicit.proofs.LevelsComputed.OneCutting.{only_last_longer}
use Rattle.compress.specs.Paragraph.{few_units}
use Rattle.compress.specs.Remaining.{stays, remaining_units}
use Rattle.compress.specs.Squeeze.{Stack, joins, popped, added, next_for, turned, first_unit, squeezed, units_onto}
use Rattle.compress.proofs.Few.{ok_stack, ok_next_for, ok_popped, ok_added}
use Rattle.compress.proofs.Sound.{both_parts}

abbrev inner : Class → Bool
inner c = not (is_separator c)

abbrev inner_stack : Stack → Bool
inner_stack stack = ok_stack inner refl refl refl refl refl refl refl stack

not_true : (b : Bool) → not b ≡ true → b ≡ false
not_true true h = cc
not_true false h = refl

last_onto : (back : Stack) (us : List BidiUnit) → inner_stack back ≡ true → SeparatorOnlyLast us → SeparatorOnlyLast (units_onto back us)
last_onto [] us h last = last
last_onto (top ∷ back) us h last =
    let p = both_parts (inner top.0.class) (inner_stack back) h in
    last_onto back (top.0 ∷ us) p.1 (only_last_longer top.0 us (not_true (is_separator top.0.class) p.0) last)

-- what replaces u keeps it so
module _ (d : Class) where
  chosen_inner : (stack : Stack) (u : BidiUnit) (n : Class) → inner_stack stack ≡ true → inner u.class ≡ true → inner_stack (turned d d stack u n) ≡ true
  chosen_inner stack u n h g =
      let v : BidiUnit = next_for d stack u n in
      let ok = ok_next_for inner refl refl refl refl refl refl refl d stack u n g in
      ok_added inner refl refl refl refl refl refl refl d (popped stack v) v (ok_popped inner refl refl refl refl refl refl refl stack v h) ok

  -- the last one may be a separator
  added_last : (stack : Stack) (v : BidiUnit) → inner_stack stack ≡ true → SeparatorOnlyLast (units_onto (added d stack v) [])
  added_last [] v h = tt
  added_last (c ∷ back) v h =
      let less : Stack = (c.0, c.1 + 1) ∷ back in
      let more : Stack = (v, 1) ∷ c ∷ back in
      elim (cases_Bool (joins d c.0 v)) [
        | inl t ↦ subst (λ (st : Stack). SeparatorOnlyLast (units_onto st [])) (sym (cond-true (joins d c.0 v) less more t)) (last_onto less [] h tt)
        | inr f ↦ subst (λ (st : Stack). SeparatorOnlyLast (units_onto st [])) (sym (cond-false (joins d c.0 v) less more f)) (last_onto (c ∷ back) (v ∷ []) h tt)
      ]

  squeezed_last : (stack : Stack) (tail : List BidiUnit) → inner_stack stack ≡ true → SeparatorOnlyLast tail → SeparatorOnlyLast (units_onto (squeezed d d stack tail) [])
  squeezed_last stack [] h last = last_onto stack [] h tt
  squeezed_last stack (u ∷ []) h last =
      let v : BidiUnit = next_for d stack u (first_unit []).class in
      added_last (popped stack v) v (ok_popped inner refl refl refl refl refl refl refl stack v h)
  squeezed_last stack (u ∷ w ∷ tail) h last =
      squeezed_last (turned d d stack u w.class) (w ∷ tail) (chosen_inner stack u w.class h (ap not last.0)) last.1

last_tail : (u : BidiUnit) (us : List BidiUnit) → SeparatorOnlyLast (u ∷ us) → SeparatorOnlyLast us
last_tail u [] last = tt
last_tail u (v ∷ us) last = last.1

before_remaining : (u : BidiUnit) (us : List BidiUnit) → SeparatorOnlyLast (u ∷ us) → SeparatorOnlyLast (remaining_units us) → SeparatorOnlyLast (u ∷ remaining_units us)
before_remaining u [] last later = tt
before_remaining u (v ∷ us) last later = only_last_longer u (remaining_units (v ∷ us)) last.0 later

remaining_last : (us : List BidiUnit) → SeparatorOnlyLast us → SeparatorOnlyLast (remaining_units us)
remaining_last [] last = tt
remaining_last (u ∷ us) last =
    let later : SeparatorOnlyLast (remaining_units us) = remaining_last us (last_tail u us last) in
    elim (cases_Bool (stays u)) [
      | inl t ↦ subst SeparatorOnlyLast (sym (cond-true (stays u) (u ∷ remaining_units us) (remaining_units us) t)) (before_remaining u us last later)
      | inr f ↦ subst SeparatorOnlyLast (sym (cond-false (stays u) (u ∷ remaining_units us) (remaining_units us) f)) later
    ]

pub few_last : (us : List BidiUnit) (para : ℕ) → SeparatorOnlyLast us → SeparatorOnlyLast (few_units us para)
few_last us para last = squeezed_last (direction_of para) [] (remaining_units us) refl (remaining_last us last)

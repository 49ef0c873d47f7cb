-- Neutrals between letters of one kind have their level, in one step.
use Rattle.std.specs.Prelude.{ℕ, suc, ◌+◌, ◌-◌, ◌<◌, ◌≤◌, true, false, ◌&&◌, ◌||◌, ◌≡◌, List, [], ◌∷◌, length, refl}
use Rattle.std.proofs.Common.{arith, ap, sym, ◌∙◌, inl, inr}
use Rattle.std.proofs.lemmas.Bool.{cond-true, cond-false, not-true}
use Rattle.units.specs.Classes.{is_nonspacing, is_removed, is_strong}
use Rattle.units.specs.declared.bracket.Unit.{Unit as BidiUnit}
use Rattle.units.specs.declared.class.Class.{Class}
use Rattle.units.specs.declared.class.Class.TheVariants.{L, R, AL, EN, ES, ET, CS, S, WS, ON}
use Rattle.compress.specs.Laid.{start_at, class_after, BecomesLetter, remaining_before, stack_of, IsLaid, LeadsOn}
use Rattle.compress.specs.Spread.{may_repeat, is_space, is_quiet, is_still, is_apart}
use Rattle.compress.specs.Squeeze.{Stack, is_bare, repeats, is_directed, is_one_way, joins, is_between, is_sign, is_neutral_unit, is_terminator, is_terminator_unit, first_unit, is_same_letter, is_letter_again, is_open_letter, is_number_or_sign, class_for, known_after, popped, added, next_for, turned}
use Rattle.compress.proofs.Counting.{at, remaining_here, remaining_chosen, remaining_up_to}
use Rattle.compress.proofs.Knowing.{space_weak, strong_next}
use Rattle.compress.proofs.Passing.{leads_turn, spaced_is_quiet, passed_turn, next_for-plain, or_first, or_second, and_false, space_for, is_sign_quiet}
use Rattle.compress.proofs.Sound.{both_parts, join_parts}
use Rattle.compress.proofs.Squeezed.{or_parts}

-- a letter
record IsLetter (t : Class) : Type 0 where
  no_space : is_space t ≡ false
  quiet : is_quiet t ≡ true
  again : repeats t t ≡ true
  one_way : is_one_way t t ≡ true
  plain : is_number_or_sign t ≡ false
  remains : is_removed t ≡ false
  still : is_still t ≡ true

letter_is : (t : Class) → is_strong t ≡ true → IsLetter t
letter_is L h = record { no_space = refl; quiet = refl; again = refl; one_way = refl; plain = refl; remains = refl; still = refl }
letter_is R h = record { no_space = refl; quiet = refl; again = refl; one_way = refl; plain = refl; remains = refl; still = refl }
letter_is AL h = record { no_space = refl; quiet = refl; again = refl; one_way = refl; plain = refl; remains = refl; still = refl }
letter_is t h = cc

same_letter_is : (t u : Class) → is_same_letter t u ≡ true → u ≡ t
same_letter_is L L h = refl
same_letter_is R R h = refl
same_letter_is AL AL h = refl
same_letter_is t u h = cc

terminator_is : (u : Class) → is_terminator u ≡ true → u ≡ ET
terminator_is ET h = refl
terminator_is u h = cc

neutral_remains : (u : Class) → (is_space u || is_sign u) ≡ true → is_removed u ≡ false
neutral_remains S h = refl
neutral_remains WS h = refl
neutral_remains ON h = refl
neutral_remains ES h = refl
neutral_remains CS h = refl
neutral_remains u h = cc

replaced_is_space : (s t u n : Class) → (is_space u || is_sign u) ≡ true → is_quiet t ≡ true → is_space (class_for s t u n) ≡ true
replaced_is_space s t u n h q =
    elim (or_parts (is_space u) (is_sign u) h) [
      | inl space ↦ ap is_space (space_for s t u n space) ∙ space
      | inr sign ↦ ap is_space (is_sign_quiet s t u n sign q)
    ]

space_no_mark : (v : Class) → is_space v ≡ true → is_nonspacing v ≡ false
space_no_mark S h = refl
space_no_mark WS h = refl
space_no_mark ON h = refl
space_no_mark v h = cc

space_no_repeat : (t v : Class) → is_space v ≡ true → is_strong t ≡ true → repeats t v ≡ false
space_no_repeat L S h g = refl
space_no_repeat L WS h g = refl
space_no_repeat L ON h g = refl
space_no_repeat R S h g = refl
space_no_repeat R WS h g = refl
space_no_repeat R ON h g = refl
space_no_repeat AL S h g = refl
space_no_repeat AL WS h g = refl
space_no_repeat AL ON h g = refl
space_no_repeat t v h g = cc

-- a letter of another direction, and no bracket
record IsOpen (d : Class) (top : BidiUnit) : Type 0 where
  bare : is_bare top.bracket ≡ true
  strong : is_strong top.class ≡ true
  letter : IsLetter top.class
  other : is_directed d top.class ≡ false

open_is : (d : Class) (top : BidiUnit) → is_open_letter d top ≡ true → IsOpen d top
open_is d top h =
    let p = both_parts (is_bare top.bracket) _ h in
    let q = both_parts (is_strong top.class) _ p.1 in
    record { bare = p.0; strong = q.0; letter = letter_is top.class q.0; other = not-true (is_directed d top.class) q.1 }

-- a neutral that is chosen after it
pub record IsInside (v : BidiUnit) : Type 0 where
  pub bare : is_bare v.bracket ≡ true
  pub space : is_space v.class ≡ true

-- a number without a bracket, before a class that joins no number
abbrev is_number_of : BidiUnit → Class → Type 0
is_number_of u n = (u.class ≡ EN) × ((is_bare u.bracket ≡ true) × (is_apart n ≡ true))

number_becomes : (d : Class) (c : BidiUnit × ℕ) (back : Stack) (u : BidiUnit) (n : Class) → is_quiet c.0.class ≡ true →
    (known_after d (c ∷ back)).strong ≡ L → is_number_of u n → next_for d (c ∷ back) u n ≡ record { class = L; bracket = u.bracket }
number_becomes d c back u n quiet strong h =
    let s : Class = (known_after d (c ∷ back)).strong in
    let v : BidiUnit = record { class = class_for (known_after d (c ∷ back)).strong c.0.class u.class n; bracket = u.bracket } in
    cond-true (is_bare u.bracket) v u h.1.0
    ∙ ap (λ (k : Class). record { class = class_for s c.0.class k n; bracket = u.bracket }) h.0
    ∙ ap (λ (k : Class). record { class = k; bracket = u.bracket })
    (cond-true ((is_quiet c.0.class && is_directed L s) && is_apart n) L EN
    (join_parts (is_quiet c.0.class && is_directed L s) (is_apart n)
    (join_parts (is_quiet c.0.class) (is_directed L s) quiet (ap (is_directed L) strong)) h.1.1))

module _ (d : Class) (top : BidiUnit) (o : IsOpen d top) (count : ℕ) (back : Stack) where
  abbrev first : Stack
  first = (top, count) ∷ back

  not_taken_back : (back : Stack) (v : BidiUnit) → popped ((top, count) ∷ back) v ≡ (top, count) ∷ back
  not_taken_back [] v = refl
  not_taken_back (b ∷ below) v =
      cond-false (is_between b.0 top v) ((b.0, b.1 + count) ∷ below) ((top, count) ∷ b ∷ below)
      (and_false (is_bare top.bracket && is_bare b.0.bracket) _ (ap (λ x. x && is_one_way b.0.class v.class) o.letter.no_space))

  not_joined : (v : BidiUnit) → IsInside v → joins d top v ≡ false
  not_joined v i =
      let spaced : (is_space top.class || is_directed d top.class) ≡ false = ap (λ x. x || is_directed d top.class) o.letter.no_space ∙ o.other in
      let plain : (repeats top.class v.class || (is_space v.class && (is_space top.class || is_directed d top.class))) ≡ false =
      ap (λ x. x || (is_space v.class && (is_space top.class || is_directed d top.class))) (space_no_repeat top.class v.class i.space o.strong)
      ∙ and_false (is_space v.class) _ spaced in
      ap (λ x. (x && may_repeat top.class) || ((is_bare v.bracket && is_bare top.bracket)
      && (repeats top.class v.class || (is_space v.class && (is_space top.class || is_directed d top.class))))) (space_no_mark v.class i.space)
      ∙ and_false (is_bare v.bracket && is_bare top.bracket) _ plain

  inside : (u : BidiUnit) (n : Class) → is_neutral_unit u ≡ true → IsInside (next_for d ((top, count) ∷ back) u n)
  inside u n h =
      let p = both_parts (is_bare u.bracket) _ h in
      let s : Class = (known_after d ((top, count) ∷ back)).strong in
      let v : BidiUnit = record { class = class_for (known_after d ((top, count) ∷ back)).strong top.class u.class n; bracket = u.bracket } in
      let is : next_for d ((top, count) ∷ back) u n ≡ v = cond-true (is_bare u.bracket) v u p.0 in
      record {
        bare = ap (λ (w : BidiUnit). is_bare w.bracket) is ∙ p.0;
        space = ap (λ (w : BidiUnit). is_space w.class) is ∙ replaced_is_space s top.class u.class n p.1 o.letter.quiet;
      }

  -- a terminator before a letter is neutral too
  inside_weak : (u : BidiUnit) (n : Class) → is_terminator_unit u ≡ true → is_still n ≡ true → IsInside (next_for d ((top, count) ∷ back) u n)
  inside_weak u n h still =
      let p = both_parts (is_bare u.bracket) _ h in
      let v : BidiUnit = record { class = class_for (known_after d ((top, count) ∷ back)).strong top.class u.class n; bracket = u.bracket } in
      let is : next_for d ((top, count) ∷ back) u n ≡ v = cond-true (is_bare u.bracket) v u p.0 in
      record {
        bare = ap (λ (w : BidiUnit). is_bare w.bracket) is ∙ p.0;
        space = ap (λ (w : BidiUnit). is_space w.class) is
            ∙ ap (λ (k : Class). is_space (class_for (known_after d ((top, count) ∷ back)).strong top.class k n)) (terminator_is u.class p.1)
            ∙ ap is_space (cond-true (is_quiet top.class && is_still n) ON ET (join_parts (is_quiet top.class) (is_still n) o.letter.quiet still));
      }

  open_turn : (u : BidiUnit) (n : Class) → IsInside (next_for d ((top, count) ∷ back) u n) →
      turned d d ((top, count) ∷ back) u n ≡ (next_for d ((top, count) ∷ back) u n, 1) ∷ (top, count) ∷ back
  open_turn u n i =
      let v : BidiUnit = next_for d ((top, count) ∷ back) u n in
      ap (λ st. added d st v) (not_taken_back back v)
      ∙ cond-false (joins d top v) ((top, count + 1) ∷ back) ((v, 1) ∷ (top, count) ∷ back) (not_joined v i)

  more_turn : (v : BidiUnit) (c : ℕ) (u : BidiUnit) (n : Class) → IsInside v → is_neutral_unit u ≡ true →
      turned d d ((v, c) ∷ (top, count) ∷ back) u n ≡ (v, c + 1) ∷ (top, count) ∷ back
  more_turn v c u n i h =
      let p = both_parts (is_bare u.bracket) _ h in
      passed_turn d d (v, c) ((top, count) ∷ back) u n i.bare p.0 (neutral_remains u.class p.1)
      (or_second (is_removed u.class) _ (or_second (is_nonspacing u.class && may_repeat v.class) _ (or_second (repeats v.class u.class) _
      (join_parts (is_space u.class || is_sign u.class) (is_space v.class || is_directed d v.class) p.1 (or_first (is_space v.class) _ i.space)))))

  -- what is joined to the letter itself
  joined_as : (w : BidiUnit) → is_bare w.bracket ≡ true → w.class ≡ top.class → joins d top w ≡ true
  joined_as w bare e =
      or_second (is_nonspacing w.class && may_repeat top.class) _
      (join_parts (is_bare w.bracket && is_bare top.bracket) _ (join_parts (is_bare w.bracket) (is_bare top.bracket) bare o.bare)
      (or_first (repeats top.class w.class) _ (ap (repeats top.class) e ∙ o.letter.again)))

  -- after neutrals comes what is or becomes the letter again
  last_as : (v : BidiUnit) (c : ℕ) (u w : BidiUnit) (n : Class) → IsInside v → next_for d ((v, c) ∷ (top, count) ∷ back) u n ≡ w →
      is_bare w.bracket ≡ true → w.class ≡ top.class → turned d d ((v, c) ∷ (top, count) ∷ back) u n ≡ (top, (count + c) + 1) ∷ back
  last_as v c u w n i same bare e =
      let between : is_between top v w ≡ true =
      join_parts (is_bare v.bracket && is_bare top.bracket) (is_space v.class && is_one_way top.class w.class)
      (join_parts (is_bare v.bracket) (is_bare top.bracket) i.bare o.bare)
      (join_parts (is_space v.class) (is_one_way top.class w.class) i.space (ap (is_one_way top.class) e ∙ o.letter.one_way)) in
      ap (λ x. added d (popped ((v, c) ∷ (top, count) ∷ back) x) x) same
      ∙ ap (λ st. added d st w) (cond-true (is_between top v w) ((top, count + c) ∷ back) ((v, c) ∷ (top, count) ∷ back) between)
      ∙ cond-true (joins d top w) ((top, (count + c) + 1) ∷ back) ((w, 1) ∷ (top, count + c) ∷ back) (joined_as w bare e)

  last_turn : (v : BidiUnit) (c : ℕ) (u : BidiUnit) (n : Class) → IsInside v → is_letter_again top.class u ≡ true →
      turned d d ((v, c) ∷ (top, count) ∷ back) u n ≡ (top, (count + c) + 1) ∷ back
  last_turn v c u n i h =
      let p = both_parts (is_bare u.bracket) _ h in
      let e : u.class ≡ top.class = same_letter_is top.class u.class p.1 in
      last_as v c u u n i (sym (next_for-plain d ((v, c) ∷ (top, count) ∷ back) u n (ap is_number_or_sign e ∙ o.letter.plain))) p.0 e

  top_strong : (known_after d ((top, count) ∷ back)).strong ≡ top.class
  top_strong = strong_next d (top, count) back ∙ cond-true (is_strong top.class) top.class (known_after d back).strong o.strong

  inside_strong : (v : BidiUnit) (c : ℕ) → IsInside v → (known_after d ((v, c) ∷ (top, count) ∷ back)).strong ≡ top.class
  inside_strong v c i =
      strong_next d (v, c) ((top, count) ∷ back)
      ∙ cond-false (is_strong v.class) v.class (known_after d ((top, count) ∷ back)).strong (space_weak v.class i.space)
      ∙ top_strong

  -- W7: a number after L, or after neutrals after it, becomes L
  number_turn : (u : BidiUnit) (n : Class) → top.class ≡ L → is_number_of u n → turned d d ((top, count) ∷ back) u n ≡ (top, count + 1) ∷ back
  number_turn u n is_l h =
      let w : BidiUnit = record { class = L; bracket = u.bracket } in
      ap (λ x. added d (popped ((top, count) ∷ back) x) x) (number_becomes d (top, count) back u n o.letter.quiet (top_strong ∙ is_l) h)
      ∙ ap (λ st. added d st w) (not_taken_back back w)
      ∙ cond-true (joins d top w) ((top, count + 1) ∷ back) ((w, 1) ∷ (top, count) ∷ back) (joined_as w h.1.0 (sym is_l))

  last_number : (v : BidiUnit) (c : ℕ) (u : BidiUnit) (n : Class) → top.class ≡ L → IsInside v → is_number_of u n →
      turned d d ((v, c) ∷ (top, count) ∷ back) u n ≡ (top, (count + c) + 1) ∷ back
  last_number v c u n is_l i h =
      last_as v c u (record { class = L; bracket = u.bracket }) n i
      (number_becomes d (v, c) ((top, count) ∷ back) u n (spaced_is_quiet d v.class (or_first (is_space v.class) _ i.space)) (inside_strong v c i ∙ is_l) h)
      h.1.0 (sym is_l)

module _ (d : Class) (us chosen starts : List BidiUnit) (k : ℕ) where
  abbrev before : ℕ → ℕ
  before p = remaining_before us p

  abbrev at_top : ℕ → Stack
  at_top p = stack_of us chosen starts (suc k) p

  -- neutrals from p up to i, after the letter that was chosen last
  pub record AreInside (p i : ℕ) : Type 0 where
    pub unit : BidiUnit
    pub inside : IsInside unit
    pub later : p < i
    pub within : i ≤ length us
    pub leads : LeadsOn d us ((unit, before i - before p) ∷ at_top p) i

  inside_begins : (p : ℕ) → p < length us → is_removed (at us p).class ≡ false → is_open_letter d (at chosen k) ≡ true →
      IsInside (next_for d (at_top p) (at us p) (class_after us p)) → LeadsOn d us (at_top p) p → AreInside p (p + 1)
  inside_begins p lt f h i way =
      let o : IsOpen d (at chosen k) = open_is d (at chosen k) h in
      let count : ℕ = before p - before (start_at starts k) in
      let back : Stack = stack_of us chosen starts k (start_at starts k) in
      let n : Class = class_after us p in
      let v : BidiUnit = next_for d (at_top p) (at us p) n in
      let only = remaining_chosen us p lt f in
      let one : before (p + 1) - before p ≡ 1 = omega arith in
      record {
        unit = v;
        inside = i;
        later = omega arith;
        within = omega arith;
        leads = leads_turn d us p (p + 1) (at_top p) ((v, before (p + 1) - before p) ∷ at_top p) lt f (omega arith) (omega arith) (λ q a b. absurd (omega arith))
            (ap (λ c. (v, c) ∷ at_top p) one ∙ sym (open_turn d (at chosen k) o count back (at us p) n i)) way;
      }

  pub inside_first : (p : ℕ) → p < length us → is_open_letter d (at chosen k) ≡ true → is_neutral_unit (at us p) ≡ true → LeadsOn d us (at_top p) p → AreInside p (p + 1)
  inside_first p lt h neutral way =
      inside_begins p lt (neutral_remains (at us p).class (both_parts (is_bare (at us p).bracket) _ neutral).1) h
      (inside d (at chosen k) (open_is d (at chosen k) h) (before p - before (start_at starts k)) (stack_of us chosen starts k (start_at starts k))
      (at us p) (class_after us p) neutral) way

  -- the class after p is that of the letter there
  letter_after : (p : ℕ) → p + 1 < length us → is_open_letter d (at chosen k) ≡ true → is_letter_again (at chosen k).class (at us (p + 1)) ≡ true →
      is_still (class_after us p) ≡ true
  letter_after p lt h again =
      let o : IsOpen d (at chosen k) = open_is d (at chosen k) h in
      let e : (at us (p + 1)).class ≡ (at chosen k).class = same_letter_is (at chosen k).class (at us (p + 1)).class (both_parts (is_bare (at us (p + 1)).bracket) _ again).1 in
      ap (λ (u : BidiUnit). is_still u.class)
      (ap first_unit (remaining_here us (p + 1) lt (ap is_removed e ∙ o.letter.remains)))
      ∙ ap is_still e ∙ o.letter.still

  pub weak_first : (p : ℕ) → p + 1 < length us → is_open_letter d (at chosen k) ≡ true → is_terminator_unit (at us p) ≡ true →
      is_letter_again (at chosen k).class (at us (p + 1)) ≡ true → LeadsOn d us (at_top p) p → AreInside p (p + 1)
  weak_first p lt h weak again way =
      inside_begins p (omega arith) (ap is_removed (terminator_is (at us p).class (both_parts (is_bare (at us p).bracket) _ weak).1)) h
      (inside_weak d (at chosen k) (open_is d (at chosen k) h) (before p - before (start_at starts k)) (stack_of us chosen starts k (start_at starts k))
      (at us p) (class_after us p) weak (letter_after p lt h again)) way

  pub inside_more : (p i : ℕ) → i < length us → is_open_letter d (at chosen k) ≡ true → is_neutral_unit (at us i) ≡ true → AreInside p i → AreInside p (i + 1)
  inside_more p i lt h neutral m =
      let o : IsOpen d (at chosen k) = open_is d (at chosen k) h in
      let count : ℕ = before p - before (start_at starts k) in
      let back : Stack = stack_of us chosen starts k (start_at starts k) in
      let n : Class = class_after us i in
      let f : is_removed (at us i).class ≡ false = neutral_remains (at us i).class (both_parts (is_bare (at us i).bracket) _ neutral).1 in
      let later = m.later in
      let rises = remaining_up_to us p i (omega arith) m.within in
      let only = remaining_chosen us i lt f in
      let one : before (i + 1) - before p ≡ (before i - before p) + 1 = omega arith in
      record {
        unit = m.unit;
        inside = m.inside;
        later = omega arith;
        within = omega arith;
        leads = leads_turn d us i (i + 1) ((m.unit, before i - before p) ∷ at_top p) ((m.unit, before (i + 1) - before p) ∷ at_top p) lt f (omega arith) (omega arith)
            (λ q a b. absurd (omega arith))
            (ap (λ c. (m.unit, c) ∷ at_top p) one ∙ sym (more_turn d (at chosen k) o count back m.unit (before i - before p) (at us i) n m.inside neutral)) m.leads;
      }

  pub inside_last : (p q : ℕ) → q < length us → is_open_letter d (at chosen k) ≡ true → is_letter_again (at chosen k).class (at us q) ≡ true → IsLaid us starts (suc k) p →
      AreInside p q → LeadsOn d us (at_top (q + 1)) (q + 1)
  inside_last p q lt h again laid m =
      let o : IsOpen d (at chosen k) = open_is d (at chosen k) h in
      let count : ℕ = before p - before (start_at starts k) in
      let back : Stack = stack_of us chosen starts k (start_at starts k) in
      let n : Class = class_after us q in
      let e : (at us q).class ≡ (at chosen k).class = same_letter_is (at chosen k).class (at us q).class (both_parts (is_bare (at us q).bracket) _ again).1 in
      let f : is_removed (at us q).class ≡ false = ap is_removed e ∙ o.letter.remains in
      let later = m.later in
      let low = laid.rising.low k (omega arith) in
      let rises = remaining_up_to us p q (omega arith) m.within in
      let starts_low = remaining_up_to us (start_at starts k) p (omega arith) laid.end_within in
      let only = remaining_chosen us q lt f in
      let all : before (q + 1) - before (start_at starts k) ≡ ((before p - before (start_at starts k)) + (before q - before p)) + 1 = omega arith in
      leads_turn d us q (q + 1) ((m.unit, before q - before p) ∷ at_top p) (at_top (q + 1)) lt f (omega arith) (omega arith) (λ i a b. absurd (omega arith))
      (ap (λ c. (at chosen k, c) ∷ back) all ∙ sym (last_turn d (at chosen k) o count back m.unit (before q - before p) (at us q) n m.inside again)) m.leads

  -- the unit at q is such a number
  number_at : (q : ℕ) → BecomesLetter (at chosen k).class us q → is_number_of (at us q) (class_after us q)
  number_at q b = (b.number, (b.bare, b.apart))

  pub number_first : (p : ℕ) → p < length us → is_open_letter d (at chosen k) ≡ true → BecomesLetter (at chosen k).class us p → IsLaid us starts (suc k) p →
      LeadsOn d us (at_top p) p → LeadsOn d us (at_top (p + 1)) (p + 1)
  number_first p lt h b laid way =
      let o : IsOpen d (at chosen k) = open_is d (at chosen k) h in
      let count : ℕ = before p - before (start_at starts k) in
      let back : Stack = stack_of us chosen starts k (start_at starts k) in
      let f : is_removed (at us p).class ≡ false = ap is_removed b.number in
      let low = laid.rising.low k (omega arith) in
      let starts_low = remaining_up_to us (start_at starts k) p (omega arith) laid.end_within in
      let only = remaining_chosen us p lt f in
      let all : before (p + 1) - before (start_at starts k) ≡ (before p - before (start_at starts k)) + 1 = omega arith in
      leads_turn d us p (p + 1) (at_top p) (at_top (p + 1)) lt f (omega arith) (omega arith) (λ i a b. absurd (omega arith))
      (ap (λ c. (at chosen k, c) ∷ back) all ∙ sym (number_turn d (at chosen k) o count back (at us p) (class_after us p) b.is_l (number_at p b))) way

  pub number_last : (p q : ℕ) → q < length us → is_open_letter d (at chosen k) ≡ true → BecomesLetter (at chosen k).class us q → IsLaid us starts (suc k) p →
      AreInside p q → LeadsOn d us (at_top (q + 1)) (q + 1)
  number_last p q lt h b laid m =
      let o : IsOpen d (at chosen k) = open_is d (at chosen k) h in
      let count : ℕ = before p - before (start_at starts k) in
      let back : Stack = stack_of us chosen starts k (start_at starts k) in
      let f : is_removed (at us q).class ≡ false = ap is_removed b.number in
      let later = m.later in
      let low = laid.rising.low k (omega arith) in
      let rises = remaining_up_to us p q (omega arith) m.within in
      let starts_low = remaining_up_to us (start_at starts k) p (omega arith) laid.end_within in
      let only = remaining_chosen us q lt f in
      let all : before (q + 1) - before (start_at starts k) ≡ ((before p - before (start_at starts k)) + (before q - before p)) + 1 = omega arith in
      leads_turn d us q (q + 1) ((m.unit, before q - before p) ∷ at_top p) (at_top (q + 1)) lt f (omega arith) (omega arith) (λ i a b. absurd (omega arith))
      (ap (λ c. (at chosen k, c) ∷ back) all
      ∙ sym (last_number d (at chosen k) o count back m.unit (before q - before p) (at us q) (class_after us q) b.is_l m.inside (number_at q b))) m.leads

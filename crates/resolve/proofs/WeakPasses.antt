-- W1 to W7 in one pass.
use Rattle.std.specs.Prelude.{true, ◌≡◌, List, [], ◌∷◌, map, if◌then◌else◌, refl}
use Rattle.std.proofs.Common.{arith, ap, sym, ◌∙◌, inl, inr}
use Rattle.std.proofs.lemmas.Bool.{cases_Bool, cond-true, cond-false}
use Rattle.units.specs.Classes.{is_base, is_strong, is_terminator}
use Rattle.units.specs.Weak.{by_w1, by_w2, by_w3, by_w4, by_w5, by_w6, by_w7, is_any, after_w1, after_w2, after_w3, after_w4, after_w5, after_w6, after_w7, after_weak}
use Rattle.units.specs.declared.class.Class.{Class}
use Rattle.units.specs.declared.class.Class.TheVariants.{ET, ON}
use Rattle.resolve.specs.Ahead.{first_class}
use Rattle.resolve.specs.ThroughW3.{preceding_of, by_w1_to_w3, preceding_past, all_by_w1_to_w3, is_no_terminator}
use Rattle.resolve.specs.Contexts.{context_at_start, by_w5_after, by_w4_w5, by_w1_to_w5, context_past, by_context}
use Rattle.resolve.specs.declared.preceding.Preceding.{Preceding}
use Rattle.resolve.specs.declared.weak.Context.{Context}
use Rattle.resolve.proofs.Sides.{sides, along, sides-is}
use Rattle.resolve.proofs.StatePasses.{after_state_pass}
use Rattle.resolve.proofs.ByKind.{by_w5_after-again, by_w5_after-other, weak_stays, strong_stays, letters_stay, by_w7-by_w3, by_w7-strong, by_w4-et, by_w4-terminator, by_w4_w5-is}

-- W5 at a class
abbrev pub at_w5 : Class → Class → Class → Class
at_w5 before c after = if is_terminator c then by_w5 before after else c

-- W4 along a list, after a class
abbrev pub along_w4 : Class → List Class → List Class
along_w4 before cs = sides by_w4 is_any is_any before ON cs

-- W1 to W7 along a list, each rule by what it knows about the classes before
abbrev pub along_weak : Preceding → Class → Class → Class → List Class → List Class
along_weak preceding before number strong cs =
    along by_w7 is_strong strong
    (map by_w6 (sides at_w5 is_no_terminator is_no_terminator number ON
    (along_w4 before (all_by_w1_to_w3 preceding cs))))

-- W1 to W3
all_by_w1_to_w3-is : (preceding : Preceding) (cs : List Class) →
    map by_w3 (along by_w2 is_strong preceding.strong (along by_w1 is_base preceding.base cs)) ≡
    all_by_w1_to_w3 preceding cs
all_by_w1_to_w3-is preceding [] = refl
all_by_w1_to_w3-is preceding (c ∷ cs) =
    ap (λ (ds : List Class). by_w1_to_w3 preceding c ∷ ds) (all_by_w1_to_w3-is (preceding_past preceding c) cs)

-- W1 to W7 index by index, and along the list
pub after_weak-along : (sos : Class) (cs : List Class) → after_weak sos cs ≡ along_weak (preceding_of sos) ON ON sos cs
unfolding after_weak
after_weak-along sos cs =
    let firsts : after_w3 (after_w2 sos (after_w1 sos cs)) ≡ all_by_w1_to_w3 (preceding_of sos) cs =
    ap (λ (xs : List Class). map by_w3 (after_w2 sos xs)) (sides-is (λ b c a. by_w1 b c) is_base is_any sos ON cs)
    ∙ ap (map by_w3) (sides-is (λ b c a. by_w2 b c) is_strong is_any sos ON (along by_w1 is_base sos cs))
    ∙ all_by_w1_to_w3-is (preceding_of sos) cs in
    let w4 : after_w4 (all_by_w1_to_w3 (preceding_of sos) cs) ≡ along_w4 ON (all_by_w1_to_w3 (preceding_of sos) cs) =
    sides-is by_w4 is_any is_any ON ON (all_by_w1_to_w3 (preceding_of sos) cs) in
    let w5 : after_w5 (along_w4 ON (all_by_w1_to_w3 (preceding_of sos) cs)) ≡
    sides at_w5 is_no_terminator is_no_terminator ON ON (along_w4 ON (all_by_w1_to_w3 (preceding_of sos) cs)) =
    sides-is at_w5 is_no_terminator is_no_terminator ON ON (along_w4 ON (all_by_w1_to_w3 (preceding_of sos) cs)) in
    ap (λ (xs : List Class). after_w7 sos (after_w6 (after_w5 (after_w4 xs)))) firsts
    ∙ ap (λ (xs : List Class). after_w7 sos (after_w6 (after_w5 xs))) w4
    ∙ ap (λ (xs : List Class). after_w7 sos (after_w6 xs)) w5
    ∙ sides-is (λ b c a. by_w7 b c) is_strong is_any sos ON
    (map by_w6 (sides at_w5 is_no_terminator is_no_terminator ON ON
    (along_w4 ON (all_by_w1_to_w3 (preceding_of sos) cs))))

-- the next class that is no ET, as W4 leaves it
abbrev pub ahead_in : Class → List Class → Class
ahead_in before ds = first_class is_no_terminator (along_w4 before ds) ON

-- after ET W4 changes nothing up to it
ahead_in-et : (ds : List Class) → ahead_in ET ds ≡ first_class is_no_terminator ds ON
ahead_in-et [] = refl
ahead_in-et (ET ∷ ds) = ahead_in-et ds
ahead_in-et (d ∷ ds) = refl

-- W5: the state just before a class says of ET what the rule says
abbrev pub IsDecided : Class → Class → Class → Type 0
IsDecided number decided ahead = by_w5 number ahead ≡ by_w5_after decided ahead

-- the next class that is no ET, from a class that W4 has handled on
abbrev pub no_terminator_from : Class → Class → Class → List Class → Class
no_terminator_from before d next ds = first_class is_no_terminator (by_w4 before d next ∷ along_w4 d ds) ON

no_terminator_from-et : (before decided number next : Class) (ds : List Class) →
    IsDecided number decided (no_terminator_from before ET next ds) → IsDecided number decided (ahead_in ET ds)
no_terminator_from-et before decided number next ds h = grind (arith, by_w4-et)

-- W4 and W5 at a class
class_by_w5 : (before decided number d next : Class) (ds : List Class) →
    IsDecided number decided (no_terminator_from before d next ds) →
    at_w5 number (by_w4 before d next) (ahead_in d ds) ≡
    by_w4_w5 before decided d next (first_class is_no_terminator ds ON)
class_by_w5 before decided number ET next ds h = grind (arith, by_w4-et, no_terminator_from-et, ahead_in-et)
class_by_w5 before decided number d next ds h = grind (arith, cond-false, by_w4-terminator, by_w4_w5-is)

-- and the state after it
next_by_w5 : (before decided number d next : Class) (ds : List Class) →
    IsDecided number decided (no_terminator_from before d next ds) →
    IsDecided (if is_no_terminator (by_w4 before d next) then by_w4 before d next else number)
    (by_w4_w5 before decided d next (first_class is_no_terminator ds ON)) (ahead_in d ds)
next_by_w5 before decided number ET next ds h = grind (
  arith,
  by_w4-et,
  by_w5_after-again,
  no_terminator_from-et,
  ahead_in-et,
)
next_by_w5 before decided number d next ds h =
    grind (arith, by_w4-terminator, cond-true, by_w5_after-other, by_w4_w5-is)

-- W7 does the same after both
abbrev pub AreAlike : Class → Class → Type 0
AreAlike strong other = (c : Class) → by_w7 strong c ≡ by_w7 other c

-- W7 at a class, and after it: m is the class after W1, n after W5
module _ (latest strong m before decided next ahead : Class) (alike : AreAlike latest strong) where
  abbrev n : Class
  n = by_w4_w5 before decided (by_w3 (by_w2 strong m)) next ahead

  abbrev strong_past : Class
  strong_past = if is_strong m then m else strong

  class_last : by_w7 latest (by_w6 n) ≡ by_w7 strong_past (by_w6 n)
  class_last =
      elim (cases_Bool (is_strong m)) [
        | inl t ↦
            let d : is_strong (by_w3 (by_w2 strong m)) ≡ true = letters_stay strong m ∙ t in
            let s : is_strong (by_w6 n) ≡ true = weak_stays before decided (by_w3 (by_w2 strong m)) next ahead ∙ d in
            by_w7-strong latest (by_w6 n) s ∙ sym (by_w7-strong strong_past (by_w6 n) s)
        | inr f ↦ alike (by_w6 n) ∙ ap (λ (s : Class). by_w7 s (by_w6 n)) (sym (cond-false (is_strong m) m strong f))
      ]

  next_alike : AreAlike (if is_strong (by_w6 n) then by_w6 n else latest) strong_past
  next_alike = grind (arith, letters_stay, weak_stays, cond-true, strong_stays, by_w7-by_w3, cond-false)

-- `to` are the classes that come next after W1 to W7, by what is known
record WeakState (x : Context) (cs to : List Class) : Type 0 where
  number : Class
  strong : Class
  is : to ≡ along_weak x.preceding x.before number strong cs
  decided : IsDecided number x.decided (ahead_in x.before (all_by_w1_to_w3 x.preceding cs))
  alike : AreAlike strong x.preceding.strong

state_start : (sos : Class) (cs : List Class) → WeakState (context_at_start sos) cs (after_weak sos cs)
state_start sos cs = record {
  number = ON;
  strong = sos;
  is = after_weak-along sos cs;
  decided = refl;
  alike =
      λ c. refl;
}

-- the next class, and what is known after it
state_step : (x : Context) (c : Class) (cs to : List Class) → WeakState x (c ∷ cs) to →
    (rest : List Class) × (to ≡ by_context x c cs ∷ rest) × WeakState (context_past x c cs) cs rest
state_step x c cs to w =
    let m : Class = by_w1 x.preceding.base c in
    let d : Class = by_w1_to_w3 x.preceding c in
    let preceding : Preceding = preceding_past x.preceding c in
    let ds : List Class = all_by_w1_to_w3 preceding cs in
    let next : Class = first_class is_any ds ON in
    let ahead : Class = first_class is_no_terminator ds ON in
    let number : Class = if is_no_terminator (by_w4 x.before d next) then by_w4 x.before d next else w.number in
    let n : Class = by_w1_to_w5 x c cs in
    let latest : Class = if is_strong (by_w6 n) then by_w6 n else w.strong in
    let here : at_w5 w.number (by_w4 x.before d next) (ahead_in d ds) ≡ n =
    class_by_w5 x.before x.decided w.number d next ds w.decided in (
      along_weak preceding d number latest cs,
      w.is
          ∙ ap (λ (v : Class).
          by_w7 w.strong (by_w6 v) ∷ along_weak preceding d number
          (if is_strong (by_w6 v) then by_w6 v else w.strong) cs) here
          ∙ ap (λ (v : Class). v ∷ along_weak preceding d number latest cs)
          (class_last w.strong x.preceding.strong m x.before x.decided next ahead w.alike),
      record {
        number = number;
        strong = latest;
        is = refl;
        decided = next_by_w5 x.before x.decided w.number d next ds w.decided;
        alike = next_alike w.strong x.preceding.strong m x.before x.decided next ahead w.alike;
      },
    )

state_passed : (x : Context) (cs to : List Class) → WeakState x cs to →
    to ≡ after_state_pass by_context context_past x cs
state_passed x [] to w = w.is
state_passed x (c ∷ cs) to w =
    let s = state_step x c cs to w in
    s.1 ∙ ap (λ (rest : List Class). by_context x c cs ∷ rest) (state_passed (context_past x c cs) cs s.0 s.2)

-- W1 to W7, each applied to the result of the one before it, are one pass
pub after_weak-after_state_pass : (sos : Class) (cs : List Class) →
    after_weak sos cs ≡ after_state_pass by_context context_past (context_at_start sos) cs
after_weak-after_state_pass sos cs = state_passed (context_at_start sos) cs (after_weak sos cs) (state_start sos cs)

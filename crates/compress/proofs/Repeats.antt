-- A class that occurs twice side by side: W1 to W7, and N1 and N2, make of both what they make of one, and of all others
-- what they make of them without it. So a run of one class may be resolved as one position.
use Rattle.std.specs.Prelude.{Some, None, ℕ, zero, suc, Bool, true, false, not, ◌≡◌, List, [], ◌∷◌, unwrap_or, if◌then◌else◌, refl}
use Rattle.std.proofs.Common.{ap, sym, ◌∙◌, inl, inr}
use Rattle.std.proofs.lemmas.Bool.{cases_Bool, cond-true, cond-false}
use Rattle.units.specs.Classes.{class_at, is_neutral}
use Rattle.units.specs.Neutral.{by_sides, after_neutral}
use Rattle.units.specs.Runs.{SequenceView, direction_of}
use Rattle.units.specs.Weak.{by_w1, by_w2, by_w3, by_w6, by_w7, is_any, after_weak}
use Rattle.units.specs.declared.class.Class.{Class}
use Rattle.units.specs.declared.class.Class.TheVariants.{L, R, AL, EN, ET, AN, WS, ON, S, NSM}
use Rattle.resolve.specs.Ahead.{first_class}
use Rattle.resolve.specs.Contexts.{context_at_start, by_w5_after, by_w4_w5, by_w1_to_w5, context_past, by_context}
use Rattle.resolve.specs.Neutrals.{is_no_neutral, sides_of, taken_before, by_run, sides_past}
use Rattle.compress.specs.Spread.{twice, may_repeat}
use Rattle.resolve.specs.Repeats.{is_plain}
use Rattle.resolve.specs.ThroughW3.{by_w1_to_w3, preceding_past, all_by_w1_to_w3, is_no_terminator}
use Rattle.resolve.specs.declared.neutral.Sides.{Sides}
use Rattle.resolve.specs.declared.preceding.Preceding.{Preceding}
use Rattle.resolve.specs.declared.weak.Context.{Context}
use Rattle.resolve.proofs.ByKind.{by_w5_after-again}
use Rattle.resolve.proofs.NeutralPasses.{after_neutral-after_state_pass}
use Rattle.resolve.proofs.StatePasses.{after_state_pass}
use Rattle.resolve.proofs.WeakPasses.{after_weak-after_state_pass}

-- a pass whose steps look ahead at nothing that a repeat changes, and which knows after a repeat what it knew before it
module _ {X : Type 0} (given : X → Class → List Class → Class) (past : X → Class → List Class → X) (ok : Class → Bool)
    (given_ahead : (x : X) (p : Class) (k : ℕ) (cs : List Class) → ok (class_at cs k) ≡ true → given x p (twice k cs) ≡ given x p cs)
    (past_ahead : (x : X) (p : Class) (k : ℕ) (cs : List Class) → ok (class_at cs k) ≡ true → past x p (twice k cs) ≡ past x p cs)
    (given_twice : (x : X) (c : Class) (cs : List Class) → ok c ≡ true → given x c (c ∷ cs) ≡ given x c cs)
    (past_twice : (x : X) (c : Class) (cs : List Class) → ok c ≡ true → past x c (c ∷ cs) ≡ past x c cs)
    (given_again : (x : X) (c : Class) (cs : List Class) → ok c ≡ true → given (past x c cs) c cs ≡ given x c cs)
    (past_again : (x : X) (c : Class) (cs : List Class) → ok c ≡ true → past (past x c cs) c cs ≡ past x c cs) where
  passed-twice : (x : X) (k : ℕ) (cs : List Class) → ok (class_at cs k) ≡ true → after_state_pass given past x (twice k cs) ≡ twice k (after_state_pass given past x cs)
  passed-twice x k [] h = refl
  passed-twice x zero (c ∷ cs) h =
      ap (λ (v : Class). v ∷ given (past x c (c ∷ cs)) c cs ∷ after_state_pass given past (past (past x c (c ∷ cs)) c cs) cs) (given_twice x c cs h)
      ∙ ap (λ (y : X). given x c cs ∷ given y c cs ∷ after_state_pass given past (past y c cs) cs) (past_twice x c cs h)
      ∙ ap (λ (v : Class). given x c cs ∷ v ∷ after_state_pass given past (past (past x c cs) c cs) cs) (given_again x c cs h)
      ∙ ap (λ (y : X). given x c cs ∷ given x c cs ∷ after_state_pass given past y cs) (past_again x c cs h)
  passed-twice x (suc k) (c ∷ cs) h =
      ap (λ (v : Class). v ∷ after_state_pass given past (past x c (twice k cs)) (twice k cs)) (given_ahead x c k cs h)
      ∙ ap (λ (y : X). given x c cs ∷ after_state_pass given past y (twice k cs)) (past_ahead x c k cs h)
      ∙ ap (λ (ds : List Class). given x c cs ∷ ds) (passed-twice (past x c cs) k cs h)

-- a look ahead passes over a repeat
first-twice : (test : Class → Bool) (k : ℕ) (cs : List Class) (end : Class) → first_class test (twice k cs) end ≡ first_class test cs end
first-twice test k [] end = refl
first-twice test zero (c ∷ cs) end =
    elim (cases_Bool (test c)) [
      | inl t ↦ cond-true (test c) c (if test c then c else first_class test cs end) t ∙ sym (cond-true (test c) c (first_class test cs end) t)
      | inr f ↦ cond-false (test c) c (if test c then c else first_class test cs end) f
    ]
first-twice test (suc k) (c ∷ cs) end = ap (λ (d : Class). if test c then c else d) (first-twice test k cs end)

-- W2 changes EN alone
abbrev pub is_en : Class → Bool
is_en EN = true
is_en _ = false

pub w2_stays : (strong c : Class) → is_en c ≡ false → by_w2 strong c ≡ c
w2_stays AL EN h = cc
w2_stays AL c h = refl
w2_stays strong c h = refl

-- W1 to W3
w3_stays : (strong later c : Class) → is_en c ≡ false → by_w3 (by_w2 later c) ≡ by_w3 (by_w2 strong c)
w3_stays strong later c h = ap by_w3 (w2_stays later c h ∙ sym (w2_stays strong c h))

again_w3 : (f : Preceding) (c : Class) → may_repeat c ≡ true → by_w1_to_w3 (preceding_past f c) c ≡ by_w1_to_w3 f c
again_w3 f L h = w3_stays f.strong L L refl
again_w3 f R h = w3_stays f.strong R R refl
again_w3 f AL h = w3_stays f.strong AL AL refl
again_w3 f EN h = refl
again_w3 f ET h = refl
again_w3 f AN h = refl
again_w3 f S h = refl
again_w3 f WS h = refl
again_w3 f ON h = refl
again_w3 f c h = cc

again_past : (f : Preceding) (c : Class) → may_repeat c ≡ true → preceding_past (preceding_past f c) c ≡ preceding_past f c
again_past f L h = refl
again_past f R h = refl
again_past f AL h = refl
again_past f EN h = refl
again_past f ET h = refl
again_past f AN h = refl
again_past f S h = refl
again_past f WS h = refl
again_past f ON h = refl
again_past f c h = cc

all-twice : (f : Preceding) (k : ℕ) (cs : List Class) → may_repeat (class_at cs k) ≡ true → all_by_w1_to_w3 f (twice k cs) ≡ twice k (all_by_w1_to_w3 f cs)
all-twice f k [] h = refl
all-twice f zero (c ∷ cs) h =
    ap (λ (d : Class). by_w1_to_w3 f c ∷ d ∷ all_by_w1_to_w3 (preceding_past (preceding_past f c) c) cs) (again_w3 f c h)
    ∙ ap (λ (g : Preceding). by_w1_to_w3 f c ∷ by_w1_to_w3 f c ∷ all_by_w1_to_w3 g cs) (again_past f c h)
all-twice f (suc k) (c ∷ cs) h = ap (λ (ds : List Class). by_w1_to_w3 f c ∷ ds) (all-twice (preceding_past f c) k cs h)

ahead-twice : (test : Class → Bool) (f : Preceding) (k : ℕ) (cs : List Class) → may_repeat (class_at cs k) ≡ true →
    first_class test (all_by_w1_to_w3 f (twice k cs)) ON ≡ first_class test (all_by_w1_to_w3 f cs) ON
ahead-twice test f k cs h = ap (λ (ds : List Class). first_class test ds ON) (all-twice f k cs h) ∙ first-twice test k (all_by_w1_to_w3 f cs) ON

decided_ahead : (x : Context) (p : Class) (k : ℕ) (cs : List Class) → may_repeat (class_at cs k) ≡ true → by_w1_to_w5 x p (twice k cs) ≡ by_w1_to_w5 x p cs
decided_ahead x p k cs h =
    let f : Preceding = preceding_past x.preceding p in
    ap (λ (n : Class). by_w4_w5 x.before x.decided (by_w1_to_w3 x.preceding p) n (first_class is_no_terminator (all_by_w1_to_w3 f (twice k cs)) ON)) (ahead-twice is_any f k cs h)
    ∙ ap (λ (a : Class). by_w4_w5 x.before x.decided (by_w1_to_w3 x.preceding p) (first_class is_any (all_by_w1_to_w3 f cs) ON) a) (ahead-twice is_no_terminator f k cs h)

-- EN, as W3 leaves it, stays through W5
number_stays : (before decided strong next ahead : Class) → by_w4_w5 before decided (by_w3 (by_w2 strong EN)) next ahead ≡ by_w3 (by_w2 strong EN)
number_stays before decided AL next ahead = refl
number_stays before decided strong next ahead = refl

plain_stays : (before decided c next ahead : Class) → is_plain c ≡ true → by_w4_w5 before decided (by_w3 c) next ahead ≡ by_w3 c
plain_stays before decided L next ahead h = refl
plain_stays before decided R next ahead h = refl
plain_stays before decided AL next ahead h = refl
plain_stays before decided AN next ahead h = refl
plain_stays before decided S next ahead h = refl
plain_stays before decided WS next ahead h = refl
plain_stays before decided ON next ahead h = refl
plain_stays before decided c next ahead h = cc

pub plain_is_no_en : (c : Class) → is_plain c ≡ true → is_en c ≡ false
plain_is_no_en EN h = cc
plain_is_no_en c h = refl

pub by_w1-plain : (base c : Class) → is_plain c ≡ true → by_w1 base c ≡ c
by_w1-plain base NSM h = cc
by_w1-plain base c h = refl

pub decided_plain : (x : Context) (c : Class) (cs : List Class) → is_plain c ≡ true → by_w1_to_w5 x c cs ≡ by_w3 c
decided_plain x c cs h =
    let ds : List Class = all_by_w1_to_w3 (preceding_past x.preceding c) cs in
    let next : Class = first_class is_any ds ON in
    let ahead : Class = first_class is_no_terminator ds ON in
    ap (λ (d : Class). by_w4_w5 x.before x.decided (by_w3 (by_w2 x.preceding.strong d)) next ahead) (by_w1-plain x.preceding.base c h)
    ∙ ap (λ (d : Class). by_w4_w5 x.before x.decided (by_w3 d) next ahead) (w2_stays x.preceding.strong c (plain_is_no_en c h))
    ∙ plain_stays x.before x.decided c next ahead h

plain_twice : (x : Context) (c : Class) (cs : List Class) → is_plain c ≡ true → by_w1_to_w5 x c (c ∷ cs) ≡ by_w1_to_w5 x c cs
plain_twice x c cs h = decided_plain x c (c ∷ cs) h ∙ sym (decided_plain x c cs h)

plain_again : (x : Context) (c : Class) (cs : List Class) → is_plain c ≡ true → by_w1_to_w5 (context_past x c cs) c cs ≡ by_w1_to_w5 x c cs
plain_again x c cs h = decided_plain (context_past x c cs) c cs h ∙ sym (decided_plain x c cs h)

-- the same of ET: what its run becomes
decided_et : (x : Context) (cs : List Class) → by_w1_to_w5 x ET cs ≡ by_w5_after x.decided (first_class is_no_terminator (all_by_w1_to_w3 (preceding_past x.preceding ET) cs) ON)
decided_et x cs =
    let ds : List Class = all_by_w1_to_w3 (preceding_past x.preceding ET) cs in
    ap (λ (d : Class). by_w4_w5 x.before x.decided (by_w3 d) (first_class is_any ds ON) (first_class is_no_terminator ds ON)) (w2_stays x.preceding.strong ET refl)

et_ahead : (x : Context) (cs : List Class) → first_class is_no_terminator (all_by_w1_to_w3 (preceding_past x.preceding ET) (ET ∷ cs)) ON ≡ first_class is_no_terminator (all_by_w1_to_w3 (preceding_past x.preceding ET) cs) ON
et_ahead x cs =
    ap (λ (d : Class). first_class is_no_terminator (by_w3 d ∷ all_by_w1_to_w3 (preceding_past (preceding_past x.preceding ET) ET) cs) ON) (w2_stays x.preceding.strong ET refl)

-- what W5 settles of a class that may repeat depends on what occurs after its run alone
decided_twice : (x : Context) (c : Class) (cs : List Class) → may_repeat c ≡ true → by_w1_to_w5 x c (c ∷ cs) ≡ by_w1_to_w5 x c cs
decided_twice x L cs h = plain_twice x L cs refl
decided_twice x R cs h = plain_twice x R cs refl
decided_twice x AL cs h = plain_twice x AL cs refl
decided_twice x EN cs h =
    number_stays x.before x.decided x.preceding.strong (first_class is_any (all_by_w1_to_w3 (preceding_past x.preceding EN) (EN ∷ cs)) ON) (first_class is_no_terminator (all_by_w1_to_w3 (preceding_past x.preceding EN) (EN ∷ cs)) ON)
    ∙ sym (number_stays x.before x.decided x.preceding.strong (first_class is_any (all_by_w1_to_w3 (preceding_past x.preceding EN) cs) ON) (first_class is_no_terminator (all_by_w1_to_w3 (preceding_past x.preceding EN) cs) ON))
decided_twice x ET cs h = decided_et x (ET ∷ cs) ∙ ap (by_w5_after x.decided) (et_ahead x cs) ∙ sym (decided_et x cs)
decided_twice x AN cs h = plain_twice x AN cs refl
decided_twice x S cs h = plain_twice x S cs refl
decided_twice x WS cs h = plain_twice x WS cs refl
decided_twice x ON cs h = plain_twice x ON cs refl
decided_twice x c cs h = cc

run_again : (decided ahead : Class) → by_w5_after (by_w5_after decided ahead) ahead ≡ by_w5_after decided ahead
run_again EN ahead = refl
run_again ET ahead = refl
run_again decided ahead = sym (by_w5_after-again decided ahead)

decided_again : (x : Context) (c : Class) (cs : List Class) → may_repeat c ≡ true → by_w1_to_w5 (context_past x c cs) c cs ≡ by_w1_to_w5 x c cs
decided_again x L cs h = plain_again x L cs refl
decided_again x R cs h = plain_again x R cs refl
decided_again x AL cs h = plain_again x AL cs refl
decided_again x EN cs h =
    let ds : List Class = all_by_w1_to_w3 (preceding_past x.preceding EN) cs in
    number_stays (by_w1_to_w3 x.preceding EN) (by_w1_to_w5 x EN cs) x.preceding.strong (first_class is_any ds ON) (first_class is_no_terminator ds ON)
    ∙ sym (number_stays x.before x.decided x.preceding.strong (first_class is_any ds ON) (first_class is_no_terminator ds ON))
decided_again x ET cs h =
    let ahead : Class = first_class is_no_terminator (all_by_w1_to_w3 (preceding_past x.preceding ET) cs) ON in
    decided_et (context_past x ET cs) cs ∙ ap (λ (s : Class). by_w5_after s ahead) (decided_et x cs) ∙ run_again x.decided ahead ∙ sym (decided_et x cs)
decided_again x AN cs h = plain_again x AN cs refl
decided_again x S cs h = plain_again x S cs refl
decided_again x WS cs h = plain_again x WS cs refl
decided_again x ON cs h = plain_again x ON cs refl
decided_again x c cs h = cc

-- W1 to W7
pub weak_given : (x : Context) (c : Class) (cs ds : List Class) → by_w1_to_w5 x c cs ≡ by_w1_to_w5 x c ds → by_context x c cs ≡ by_context x c ds
weak_given x c cs ds e = ap (λ (s : Class). by_w7 (preceding_past x.preceding c).strong (by_w6 s)) e

abbrev pub context_with : Context → Class → Class → Context
context_with x c s = record { preceding = preceding_past x.preceding c; before = by_w1_to_w3 x.preceding c; decided = s }

pub weak_past : (x : Context) (c : Class) (cs ds : List Class) → by_w1_to_w5 x c cs ≡ by_w1_to_w5 x c ds → context_past x c cs ≡ context_past x c ds
weak_past x c cs ds e = ap (context_with x c) e

weak_given_again : (x : Context) (c : Class) (cs : List Class) → may_repeat c ≡ true → by_context (context_past x c cs) c cs ≡ by_context x c cs
weak_given_again x c cs h =
    ap (λ (f : Preceding). by_w7 f.strong (by_w6 (by_w1_to_w5 (context_past x c cs) c cs))) (again_past x.preceding c h)
    ∙ ap (λ (s : Class). by_w7 (preceding_past x.preceding c).strong (by_w6 s)) (decided_again x c cs h)

weak_past_again : (x : Context) (c : Class) (cs : List Class) → may_repeat c ≡ true → context_past (context_past x c cs) c cs ≡ context_past x c cs
weak_past_again x c cs h = cc (again_past x.preceding c h, again_w3 x.preceding c h, decided_again x c cs h)

pub after_weak-twice : (sos : Class) (k : ℕ) (cs : List Class) → may_repeat (class_at cs k) ≡ true → after_weak sos (twice k cs) ≡ twice k (after_weak sos cs)
after_weak-twice sos k cs h =
    after_weak-after_state_pass sos (twice k cs)
    ∙ passed-twice by_context context_past may_repeat
    (λ x p k cs h. weak_given x p (twice k cs) cs (decided_ahead x p k cs h))
    (λ x p k cs h. weak_past x p (twice k cs) cs (decided_ahead x p k cs h))
    (λ x c cs h. weak_given x c (c ∷ cs) cs (decided_twice x c cs h))
    (λ x c cs h. weak_past x c (c ∷ cs) cs (decided_twice x c cs h))
    weak_given_again weak_past_again (context_at_start sos) k cs h
    ∙ ap (twice k) (sym (after_weak-after_state_pass sos cs))

-- N1 and N2
abbrev any_class : Class → Bool
any_class c = true

taken_ahead : (x : Sides) (k : ℕ) (cs : List Class) → taken_before x (twice k cs) ≡ taken_before x cs
taken_ahead x k cs = ap (λ (a : Class). unwrap_or x.taken (by_sides x.embedding x.before a)) (first-twice is_no_neutral k cs x.end)

pub neutral_given : (x : Sides) (c : Class) (cs ds : List Class) → (is_neutral c ≡ true → taken_before x cs ≡ taken_before x ds) → by_run x c cs ≡ by_run x c ds
neutral_given x c cs ds e =
    elim (cases_Bool (is_neutral c)) [
      | inl t ↦ ap (λ (v : Class). if is_neutral c then v else c) (e t)
      | inr f ↦ cond-false (is_neutral c) (taken_before x cs) c f ∙ sym (cond-false (is_neutral c) (taken_before x ds) c f)
    ]

abbrev pub inside_run : Sides → Class → Sides
inside_run x v = record { embedding = x.embedding; end = x.end; before = x.before; taken = Some v }

abbrev pub outside_runs : Sides → Class → Sides
outside_runs x c = record { embedding = x.embedding; end = x.end; before = c; taken = None }

pub neutral_past : (x : Sides) (c : Class) (cs ds : List Class) → (is_neutral c ≡ true → taken_before x cs ≡ taken_before x ds) → sides_past x c cs ≡ sides_past x c ds
neutral_past x c cs ds e =
    elim (cases_Bool (is_neutral c)) [
      | inl t ↦ ap (λ (v : Class). if is_neutral c then inside_run x v else outside_runs x c) (e t)
      | inr f ↦
          cond-false (is_neutral c) (inside_run x (taken_before x cs)) (outside_runs x c) f
          ∙ sym (cond-false (is_neutral c) (inside_run x (taken_before x ds)) (outside_runs x c) f)
    ]

taken_twice : (x : Sides) (c : Class) (cs : List Class) → is_neutral c ≡ true → taken_before x (c ∷ cs) ≡ taken_before x cs
taken_twice x c cs t =
    ap (λ (a : Class). unwrap_or x.taken (by_sides x.embedding x.before a)) (cond-false (is_no_neutral c) c (first_class is_no_neutral cs x.end) (ap not t))

neutral_given_again : (x : Sides) (c : Class) (cs : List Class) → by_run (sides_past x c cs) c cs ≡ by_run x c cs
neutral_given_again x c cs =
    elim (cases_Bool (is_neutral c)) [
      | inl t ↦ ap (λ (y : Sides). by_run y c cs) (cond-true (is_neutral c) (inside_run x (taken_before x cs)) (outside_runs x c) t)
      | inr f ↦ cond-false (is_neutral c) (taken_before (sides_past x c cs) cs) c f ∙ sym (cond-false (is_neutral c) (taken_before x cs) c f)
    ]

neutral_past_again : (x : Sides) (c : Class) (cs : List Class) → sides_past (sides_past x c cs) c cs ≡ sides_past x c cs
neutral_past_again x c cs =
    elim (cases_Bool (is_neutral c)) [
      | inl t ↦ ap (λ (y : Sides). sides_past y c cs) (cond-true (is_neutral c) (inside_run x (taken_before x cs)) (outside_runs x c) t)
      | inr f ↦
          let out : sides_past x c cs ≡ outside_runs x c = cond-false (is_neutral c) (inside_run x (taken_before x cs)) (outside_runs x c) f in
          let again : sides_past (outside_runs x c) c cs ≡ outside_runs x c =
          cond-false (is_neutral c) (inside_run (outside_runs x c) (taken_before (outside_runs x c) cs)) (outside_runs x c) f in
          ap (λ (y : Sides). sides_past y c cs) out ∙ again ∙ sym out
    ]

pub after_neutral-twice : (s : SequenceView) (k : ℕ) (cs : List Class) →
    after_neutral (direction_of s.level) s.sos s.eos (twice k cs) ≡ twice k (after_neutral (direction_of s.level) s.sos s.eos cs)
after_neutral-twice s k cs =
    after_neutral-after_state_pass s (twice k cs)
    ∙ passed-twice by_run sides_past any_class
    (λ x p k cs h. neutral_given x p (twice k cs) cs (λ t. taken_ahead x k cs))
    (λ x p k cs h. neutral_past x p (twice k cs) cs (λ t. taken_ahead x k cs))
    (λ x c cs h. neutral_given x c (c ∷ cs) cs (taken_twice x c cs))
    (λ x c cs h. neutral_past x c (c ∷ cs) cs (taken_twice x c cs))
    (λ x c cs h. neutral_given_again x c cs) (λ x c cs h. neutral_past_again x c cs)
    (sides_of s) k cs refl
    ∙ ap (twice k) (sym (after_neutral-after_state_pass s cs))

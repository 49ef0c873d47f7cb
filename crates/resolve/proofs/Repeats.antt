-- A class that follows one of its own kind: W1 to W7, and N1 and N2, change it as they changed the one before, and know
-- the same after it as before it.
use Rattle.std.specs.Prelude.{Option, Some, None, ℕ, Bool, true, false, ◌≡◌, List, ◌∷◌, if◌then◌else◌, refl}
use Rattle.std.specs.List.{prefix_len}
use Rattle.std.proofs.Common.{◌+◌, ◌≤◌, arith, ap, sym, ◌∙◌, inl, inr}
use Rattle.std.proofs.lemmas.Bool.{cases_Bool, cond-true, cond-false}
use Rattle.units.specs.Classes.{is_neutral}
use Rattle.units.specs.Weak.{by_w1, by_w2, by_w3, by_w6, by_w7, is_any}
use Rattle.units.specs.declared.class.Class.{Class}
use Rattle.units.specs.declared.class.Class.TheVariants.{L, R, AL, EN, ET, AN, WS, ON, S, NSM}
use Rattle.resolve.specs.Ahead.{first_class}
use Rattle.resolve.specs.Contexts.{by_w4_w5, by_w1_to_w5, context_past, by_context, owed_in}
use Rattle.resolve.specs.Neutrals.{taken_before, by_run, sides_past, owed_along, owed_in_run}
use Rattle.resolve.specs.Repeats.{is_plain}
use Rattle.resolve.specs.ThroughW3.{by_w1_to_w3, preceding_past, all_by_w1_to_w3, is_no_terminator}
use Rattle.resolve.specs.declared.neutral.Sides.{Sides}
use Rattle.resolve.specs.declared.preceding.Preceding.{Preceding}
use Rattle.resolve.specs.declared.weak.Context.{Context}
use Rattle.resolve.proofs.ByKind.{owes_not_here}

-- W2 changes only EN
abbrev is_en : Class → Bool
is_en EN = true
is_en _ = false

w2_stays : (strong c : Class) → is_en c ≡ false → by_w2 strong c ≡ c
w2_stays AL EN h = cc
w2_stays AL c h = refl
w2_stays strong c h = refl

-- W1 to W3
w3_stays : (strong later c : Class) → is_en c ≡ false → by_w3 (by_w2 later c) ≡ by_w3 (by_w2 strong c)
w3_stays strong later c h = ap by_w3 (w2_stays later c h ∙ sym (w2_stays strong c h))

again_w3 : (f : Preceding) (c : Class) → is_plain c ≡ true → by_w1_to_w3 (preceding_past f c) c ≡ by_w1_to_w3 f c
again_w3 f L h = w3_stays f.strong L L refl
again_w3 f R h = w3_stays f.strong R R refl
again_w3 f AL h = w3_stays f.strong AL AL refl
again_w3 f AN h = refl
again_w3 f S h = refl
again_w3 f WS h = refl
again_w3 f ON h = refl
again_w3 f c h = cc

again_past : (f : Preceding) (c : Class) → is_plain c ≡ true →
    preceding_past (preceding_past f c) c ≡ preceding_past f c
again_past f L h = refl
again_past f R h = refl
again_past f AL h = refl
again_past f AN h = refl
again_past f S h = refl
again_past f WS h = refl
again_past f ON h = refl
again_past f c h = cc

plain_stays : (before decided c next ahead : Class) → is_plain c ≡ true →
    by_w4_w5 before decided (by_w3 c) next ahead ≡ by_w3 c
plain_stays before decided L next ahead h = refl
plain_stays before decided R next ahead h = refl
plain_stays before decided AL next ahead h = refl
plain_stays before decided AN next ahead h = refl
plain_stays before decided S next ahead h = refl
plain_stays before decided WS next ahead h = refl
plain_stays before decided ON next ahead h = refl
plain_stays before decided c next ahead h = cc

plain_is_no_en : (c : Class) → is_plain c ≡ true → is_en c ≡ false
plain_is_no_en EN h = cc
plain_is_no_en c h = refl

by_w1-plain : (base c : Class) → is_plain c ≡ true → by_w1 base c ≡ c
by_w1-plain base NSM h = cc
by_w1-plain base c h = refl

by_w1_to_w5_plain : (x : Context) (c : Class) (cs : List Class) → is_plain c ≡ true → by_w1_to_w5 x c cs ≡ by_w3 c
by_w1_to_w5_plain x c cs h =
    let ds : List Class = all_by_w1_to_w3 (preceding_past x.preceding c) cs in
    let next : Class = first_class is_any ds ON in
    let ahead : Class = first_class is_no_terminator ds ON in
    ap (λ (d : Class). by_w4_w5 x.before x.decided (by_w3 (by_w2 x.preceding.strong d)) next ahead)
    (by_w1-plain x.preceding.base c h)
    ∙ ap (λ (d : Class). by_w4_w5 x.before x.decided (by_w3 d) next ahead)
    (w2_stays x.preceding.strong c (plain_is_no_en c h))
    ∙ plain_stays x.before x.decided c next ahead h

plain_again : (x : Context) (c : Class) (cs : List Class) → is_plain c ≡ true →
    by_w1_to_w5 (context_past x c cs) c cs ≡ by_w1_to_w5 x c cs
plain_again x c cs h = by_w1_to_w5_plain (context_past x c cs) c cs h ∙ sym (by_w1_to_w5_plain x c cs h)

-- W1 to W7
weak_given : (x : Context) (c : Class) (cs ds : List Class) → by_w1_to_w5 x c cs ≡ by_w1_to_w5 x c ds →
    by_context x c cs ≡ by_context x c ds
weak_given x c cs ds e = ap (λ (s : Class). by_w7 (preceding_past x.preceding c).strong (by_w6 s)) e

abbrev context_with : Context → Class → Class → Context
context_with x c s = record {
  preceding = preceding_past x.preceding c;
  before = by_w1_to_w3 x.preceding c;
  decided =
      s;
}

weak_past : (x : Context) (c : Class) (cs ds : List Class) → by_w1_to_w5 x c cs ≡ by_w1_to_w5 x c ds →
    context_past x c cs ≡ context_past x c ds
weak_past x c cs ds e = ap (context_with x c) e

weak_given_again : (x : Context) (c : Class) (cs : List Class) → is_plain c ≡ true →
    by_context (context_past x c cs) c cs ≡ by_context x c cs
weak_given_again x c cs h =
    ap (λ (f : Preceding). by_w7 f.strong (by_w6 (by_w1_to_w5 (context_past x c cs) c cs))) (again_past x.preceding c h)
    ∙ ap (λ (s : Class). by_w7 (preceding_past x.preceding c).strong (by_w6 s)) (plain_again x c cs h)

weak_past_again : (x : Context) (c : Class) (cs : List Class) → is_plain c ≡ true →
    context_past (context_past x c cs) c cs ≡ context_past x c cs
weak_past_again x c cs h = cc (again_past x.preceding c h, again_w3 x.preceding c h, plain_again x c cs h)

-- N1 and N2
neutral_given : (x : Sides) (c : Class) (cs ds : List Class) →
    (is_neutral c ≡ true → taken_before x cs ≡ taken_before x ds) → by_run x c cs ≡ by_run x c ds
neutral_given x c cs ds e =
    elim (cases_Bool (is_neutral c)) [
      | inl t ↦ ap (λ (v : Class). if is_neutral c then v else c) (e t)
      | inr f ↦ cond-false (is_neutral c) (taken_before x cs) c f ∙
          sym (cond-false (is_neutral c) (taken_before x ds) c f)
    ]

abbrev pub inside_run : Sides → Class → Sides
inside_run x v = record { embedding = x.embedding; end = x.end; before = x.before; taken = Some v }

abbrev pub outside_runs : Sides → Class → Sides
outside_runs x c = record { embedding = x.embedding; end = x.end; before = c; taken = None }

neutral_past : (x : Sides) (c : Class) (cs ds : List Class) →
    (is_neutral c ≡ true → taken_before x cs ≡ taken_before x ds) → sides_past x c cs ≡ sides_past x c ds
neutral_past x c cs ds e =
    elim (cases_Bool (is_neutral c)) [
      | inl t ↦ ap (λ (v : Class). if is_neutral c then inside_run x v else outside_runs x c) (e t)
      | inr f ↦
          cond-false (is_neutral c) (inside_run x (taken_before x cs)) (outside_runs x c) f
          ∙ sym (cond-false (is_neutral c) (inside_run x (taken_before x ds)) (outside_runs x c) f)
    ]

neutral_given_again : (x : Sides) (c : Class) (cs : List Class) → by_run (sides_past x c cs) c cs ≡ by_run x c cs
neutral_given_again x c cs =
    elim (cases_Bool (is_neutral c)) [
      | inl t ↦ ap (λ (y : Sides). by_run y c cs) (cond-true (is_neutral c) (inside_run x (taken_before x cs))
          (outside_runs x c) t)
      | inr f ↦ cond-false (is_neutral c) (taken_before (sides_past x c cs) cs) c f ∙
          sym (cond-false (is_neutral c) (taken_before x cs) c f)
    ]

neutral_past_again : (x : Sides) (c : Class) (cs : List Class) → sides_past (sides_past x c cs) c cs ≡ sides_past x c cs
neutral_past_again x c cs =
    elim (cases_Bool (is_neutral c)) [
      | inl t ↦ ap (λ (y : Sides). sides_past y c cs) (cond-true (is_neutral c) (inside_run x (taken_before x cs))
          (outside_runs x c) t)
      | inr f ↦
          let out : sides_past x c cs ≡ outside_runs x c =
          cond-false (is_neutral c) (inside_run x (taken_before x cs)) (outside_runs x c) f in
          let again : sides_past (outside_runs x c) c cs ≡ outside_runs x c =
          cond-false (is_neutral c) (inside_run (outside_runs x c) (taken_before (outside_runs x c) cs))
          (outside_runs x c) f in
          ap (λ (y : Sides). sides_past y c cs) out ∙ again ∙ sym out
    ]

-- after a plain class, the next one of its kind becomes the same, and what is known is unchanged
pub record Repeats (c made : Class) (x : Context) : Type 0 where
  pub given : (cs : List Class) → by_context x c cs ≡ made
  pub past : (cs : List Class) → context_past x c cs ≡ x
  pub owes : (cs : List Class) → owed_in x (c ∷ cs) ≡ 0

plain_no_et : (c : Class) → is_plain c ≡ true → by_w3 c ≡ ET → ⊥
plain_no_et L h e = cc
plain_no_et R h e = cc
plain_no_et AL h e = cc
plain_no_et AN h e = cc
plain_no_et S h e = cc
plain_no_et WS h e = cc
plain_no_et ON h e = cc
plain_no_et c h e = cc

pub repeats_plain : (x : Context) (c : Class) (ds : List Class) → is_plain c ≡ true →
    Repeats c (by_context x c ds) (context_past x c ds)
repeats_plain x c ds h =
    let y : Context = context_past x c ds in
    let same : (cs : List Class) → by_w1_to_w5 y c cs ≡ by_w1_to_w5 y c ds = λ cs. by_w1_to_w5_plain y c cs h ∙
    sym (by_w1_to_w5_plain y c ds h) in
    let given : (cs : List Class) → by_context y c cs ≡ by_context x c ds = λ cs. weak_given y c cs ds (same cs) ∙
    weak_given_again x c ds h in
    let past : (cs : List Class) → context_past y c cs ≡ y = λ cs. weak_past y c cs ds (same cs) ∙
    weak_past_again x c ds h in
    let class : by_w1_to_w3 y.preceding c ≡ by_w3 c =
    ap (λ (d : Class). by_w3 (by_w2 y.preceding.strong d)) (by_w1-plain y.preceding.base c h) ∙
    ap by_w3 (w2_stays y.preceding.strong c (plain_is_no_en c h)) in
    let owes : (cs : List Class) → owed_in y (c ∷ cs) ≡ 0 =
    λ cs. owes_not_here y.decided (by_w1_to_w3 y.preceding c) (all_by_w1_to_w3 (preceding_past y.preceding c) cs)
    (λ e. plain_no_et c h (sym class ∙ e)) in
    record { given = given; past = past; owes = owes }

pub repeats_taken : (x y : Context) (c made : Class) (ds : List Class) → is_plain c ≡ true → made ≡ by_context x c ds →
    y ≡ context_past x c ds → Repeats c made y
repeats_taken x y c made ds plain value known = rw (value, known) (repeats_plain x c ds plain)

-- the same for N1 and N2 and every class
pub record RunsOn (c made : Class) (x : Sides) : Type 0 where
  pub given : (cs : List Class) → by_run x c cs ≡ made
  pub past : (cs : List Class) → sides_past x c cs ≡ x

-- after a class, the class that a run of its kind takes is known
taken_known : (x : Sides) (c : Class) (cs ds : List Class) → is_neutral c ≡ true →
    taken_before (sides_past x c ds) cs ≡ taken_before (sides_past x c ds) ds
taken_known x c cs ds t =
    let e : sides_past x c ds ≡ inside_run x (taken_before x ds) =
    cond-true (is_neutral c) (inside_run x (taken_before x ds)) (outside_runs x c) t in
    ap (λ (y : Sides). taken_before y cs) e ∙ sym (ap (λ (y : Sides). taken_before y ds) e)

pub runs_on : (x : Sides) (c : Class) (ds : List Class) → RunsOn c (by_run x c ds) (sides_past x c ds)
runs_on x c ds =
    let y : Sides = sides_past x c ds in
    let given : (cs : List Class) → by_run y c cs ≡ by_run x c ds =
    λ cs. neutral_given y c cs ds (taken_known x c cs ds) ∙ neutral_given_again x c ds in
    let past : (cs : List Class) → sides_past y c cs ≡ y = λ cs. neutral_past y c cs ds (taken_known x c cs ds) ∙
    neutral_past_again x c ds in
    record { given = given; past = past }

one_less : (b : Bool) (n : ℕ) → (if b then 1 + n else 0) ≤ n + 1
one_less true n = omega arith
one_less false n = omega arith

owes_along : (taken : Option Class) (c : Class) (cs : List Class) → owed_along taken (c ∷ cs) ≤ owed_along taken cs + 1
owes_along None c cs = omega arith
owes_along (Some v) c cs = one_less (is_neutral c) (prefix_len is_neutral cs)

-- after each of its classes, a run owes one step less
pub owes_less : (x : Sides) (c : Class) (cs : List Class) → owed_in_run x (c ∷ cs) ≤ owed_in_run x cs + 1
owes_less x c cs = owes_along x.taken c cs

pub runs_taken : (x y : Sides) (c made : Class) (ds : List Class) → made ≡ by_run x c ds → y ≡ sides_past x c ds →
    RunsOn c made y
runs_taken x y c made ds value known = rw (value, known) (runs_on x c ds)

-- W1 to W7 over classes that they leave unchanged: if the last strong class is the same, the last of these classes
-- decides what is known after them.
use Rattle.std.specs.Prelude.{true, false, ℕ, zero, suc, ◌+◌, ◌-◌, ◌<◌, ◌≤◌, ◌≡◌, List, ◌∷◌, length, slice_index, if◌then◌else◌, refl}
use Rattle.std.proofs.Common.{arith, ap, sym, subst, ◌∙◌, take, drop}
use Rattle.std.proofs.lemmas.List.{get_or-drop, length-drop, set-get_or, take_rest}
use Rattle.units.specs.Classes.{class_at, classes_at, is_base, is_strong}
use Rattle.units.specs.Weak.{by_w1, by_w2, by_w3, by_w6, by_w7, is_any}
use Rattle.units.specs.declared.class.Class.{Class}
use Rattle.units.specs.declared.class.Class.TheVariants.{L, R, AL, EN, ES, ET, CS, NSM, ON}
use Rattle.sequences.specs.Links.{ArePositions}
use Rattle.resolve.specs.Ahead.{first_class}
use Rattle.resolve.specs.ClassSets.{is_context_free, is_passed}
use Rattle.resolve.specs.Contexts.{by_w4_w5, by_w1_to_w5, context_past, by_context, context_past_run, unchanged_past, owed_in}
use Rattle.resolve.specs.Wanted.{may_weaken}
use Rattle.resolve.specs.ThroughW3.{by_w1_to_w3, preceding_past, all_by_w1_to_w3, is_no_terminator}
use Rattle.resolve.specs.declared.preceding.Preceding.{Preceding}
use Rattle.resolve.specs.declared.weak.Context.{Context}
use Rattle.resolve.proofs.ByKind.{owes_not_here}
use Rattle.resolve.proofs.Idle.{by_w1-idle, by_w2-idle, by_w3-idle, by_w4_w5-idle, by_context-idle}
use Rattle.resolve.proofs.StatePasses.{StatePass, StatePassSteps, state_pass_next, state_pass_steps_next}

-- a class that needs no context is AL or unchanged
pub context_free_idle : (c : Class) → is_context_free c ≡ true → (c ≡ AL → ⊥) → may_weaken c ≡ false
context_free_idle AL h other = absurd (other refl)
context_free_idle EN h other = cc
context_free_idle ES h other = cc
context_free_idle ET h other = cc
context_free_idle CS h other = cc
context_free_idle NSM h other = cc
context_free_idle c h other = refl

-- W1 to W7 change AL to R, whatever is known before it and comes after it
by_w2-letter : (strong : Class) → by_w2 strong AL ≡ AL
by_w2-letter AL = refl
by_w2-letter strong = refl

pub through_w3-letter : (f : Preceding) → by_w1_to_w3 f AL ≡ R
through_w3-letter f = ap by_w3 (by_w2-letter f.strong)

pub decided-letter : (x : Context) (cs : List Class) → by_w1_to_w5 x AL cs ≡ R
decided-letter x cs =
    let ds : List Class = all_by_w1_to_w3 (preceding_past x.preceding AL) cs in
    let next : Class = first_class is_any ds ON in
    let ahead : Class = first_class is_no_terminator ds ON in
    ap (λ (d : Class). by_w4_w5 x.before x.decided d next ahead) (through_w3-letter x.preceding)

pub by_context-letter : (x : Context) (cs : List Class) → by_context x AL cs ≡ R
by_context-letter x cs = ap (λ (d : Class). by_w7 AL (by_w6 d)) (decided-letter x cs)

letter_is_no_terminator : (c : Class) → c ≡ R → c ≡ ET → ⊥
letter_is_no_terminator ET e t = cc
letter_is_no_terminator c e t = cc

-- nothing is owed before it
pub owes-letter : (x : Context) (cs : List Class) → owed_in x (AL ∷ cs) ≡ 0
owes-letter x cs =
    owes_not_here x.decided (by_w1_to_w3 x.preceding AL) (all_by_w1_to_w3 (preceding_past x.preceding AL) cs)
    (letter_is_no_terminator (by_w1_to_w3 x.preceding AL) (through_w3-letter x.preceding))

-- the positions after an index
pub within_rest : (ps : List ℕ) (extent n : ℕ) → ArePositions ps extent → (k : ℕ) →
    k < length (take (length ps - n) (drop n ps)) →
    slice_index (take (length ps - n) (drop n ps)) k < extent
within_rest ps extent n are k lt =
    let e : take (length ps - n) (drop n ps) ≡ drop n ps = take_rest ps n in
    let inside : n + k < length ps = omega (arith, lt, ap length e, length-drop n ps) in
    subst (λ i. i < extent) (sym (ap (λ (qs : List ℕ). slice_index qs k) e ∙ get_or-drop n ps k 0))
    (are.within (n + k) inside)

through_w3-idle : (f : Preceding) (c : Class) → may_weaken c ≡ false → by_w1_to_w3 f c ≡ c
through_w3-idle f c h =
    ap (λ (d : Class). by_w3 (by_w2 f.strong d)) (by_w1-idle f.base c h) ∙ ap by_w3 (by_w2-idle f.strong c h) ∙
    by_w3-idle c h

decided-idle : (x : Context) (c : Class) (cs : List Class) → may_weaken c ≡ false → by_w1_to_w5 x c cs ≡ c
decided-idle x c cs h =
    let ds : List Class = all_by_w1_to_w3 (preceding_past x.preceding c) cs in
    let next : Class = first_class is_any ds ON in
    let ahead : Class = first_class is_no_terminator ds ON in
    ap (λ (d : Class). by_w4_w5 x.before x.decided d next ahead) (through_w3-idle x.preceding c h) ∙
    by_w4_w5-idle x.before x.decided c next ahead h

-- what is known after such a class
past-idle : (x : Context) (c : Class) (cs : List Class) → may_weaken c ≡ false →
    context_past x c cs ≡ unchanged_past x c
past-idle x c cs h = cc (through_w3-idle x.preceding c h, decided-idle x c cs h)

idle_is_no_terminator : (c : Class) → may_weaken c ≡ false → c ≡ ET → ⊥
idle_is_no_terminator ET h e = cc
idle_is_no_terminator c h e = cc

-- nothing is owed before it
owes-idle : (x : Context) (c : Class) (cs : List Class) → may_weaken c ≡ false → owed_in x (c ∷ cs) ≡ 0
owes-idle x c cs h =
    owes_not_here x.decided (by_w1_to_w3 x.preceding c) (all_by_w1_to_w3 (preceding_past x.preceding c) cs)
    (λ e. idle_is_no_terminator c h (sym (through_w3-idle x.preceding c h) ∙ e))

-- W1 to W7 leave a class that is passed unchanged
passed-idle : (d c : Class) → is_passed d c ≡ true → may_weaken c ≡ false
passed-idle L AL h = cc
passed-idle L EN h = cc
passed-idle L ES h = cc
passed-idle L ET h = cc
passed-idle L CS h = cc
passed-idle L NSM h = cc
passed-idle R AL h = cc
passed-idle R EN h = cc
passed-idle R ES h = cc
passed-idle R ET h = cc
passed-idle R CS h = cc
passed-idle R NSM h = cc
passed-idle d AL h = cc
passed-idle d EN h = cc
passed-idle d ES h = cc
passed-idle d ET h = cc
passed-idle d CS h = cc
passed-idle d NSM h = cc
passed-idle d c h = refl

-- and after it the last strong class is still this one
strong-passed : (d c : Class) → is_passed d c ≡ true → (if is_strong c then c else d) ≡ d
strong-passed L L h = refl
strong-passed R R h = refl
strong-passed L R h = cc
strong-passed L AL h = cc
strong-passed R L h = cc
strong-passed R AL h = cc
strong-passed d L h = cc
strong-passed d R h = cc
strong-passed d AL h = cc
strong-passed d c h = refl

base-idle : (base c : Class) → may_weaken c ≡ false → (if is_base c then c else base) ≡ c
base-idle base NSM h = cc
base-idle base c h = refl

abbrev after : Class → Class → Preceding
after d c = record { base = c; strong = d }

preceding-passed : (f : Preceding) (c : Class) → is_passed f.strong c ≡ true → preceding_past f c ≡ after f.strong c
preceding-passed f c h =
    let idle : may_weaken c ≡ false = passed-idle f.strong c h in
    let base : (if is_base c then c else f.base) ≡ c = base-idle f.base c idle in
    let strong : (if is_strong (by_w1 f.base c) then by_w1 f.base c else f.strong) ≡ f.strong =
    ap (λ (d : Class). if is_strong d then d else f.strong) (by_w1-idle f.base c idle) ∙ strong-passed f.strong c h in
    cc (base, strong)

abbrev with_preceding : Preceding → Class → Context
with_preceding f c = record { preceding = f; before = c; decided = c }

-- only the last one counts
unchanged_twice : (x : Context) (b c : Class) → is_passed x.preceding.strong b ≡ true →
    is_passed x.preceding.strong c ≡ true → unchanged_past (unchanged_past x b) c ≡ unchanged_past x c
unchanged_twice x b c hb hc =
    let d : Class = x.preceding.strong in
    ap (λ (f : Preceding). with_preceding (preceding_past f c) c) (preceding-passed x.preceding b hb)
    ∙ ap (λ (f : Preceding). with_preceding f c) (preceding-passed (after d b) c hc ∙
    sym (preceding-passed x.preceding c hc))

module _ {begin : Context} {ps : List ℕ} {start now : List Class} {x : Context} {k : ℕ}
    (w : StatePass by_context context_past begin ps start now x k) (inside : k < length ps)
    (idle : may_weaken (class_at now (slice_index ps k)) ≡ false) (y : Context) (known : y ≡
    unchanged_past x (class_at now (slice_index ps k))) where
  -- the pass continues over a class that is left unchanged
  pub state_pass_unchanged : StatePass by_context context_past begin ps start now y (k + 1)
  state_pass_unchanged =
      let c : Class = class_at now (slice_index ps k) in
      let cs : List Class = classes_at now (drop (k + 1) ps) in
      subst (λ (all : List Class). StatePass by_context context_past begin ps start all y (k + 1))
      (set-get_or now (slice_index ps k) L)
      (state_pass_next w inside c y (drop (k + 1) ps) refl (sym (by_context-idle x c cs idle)) (known ∙
      sym (past-idle x c cs idle)))

  -- it takes a step
  pub state_pass_steps_unchanged : (first last : ℕ) → StatePassSteps owed_in (classes_at start ps) x k first last →
      StatePassSteps owed_in (classes_at start ps) y (k + 1) first (last + 1)
  state_pass_steps_unchanged first last s =
      let c : Class = class_at now (slice_index ps k) in
      let cs : List Class = classes_at now (drop (k + 1) ps) in
      state_pass_steps_next w inside owed_in y (drop (k + 1) ps) refl first last (last + 1) s (omega arith)
      (omega (arith, owes-idle x c cs idle))

module _ {begin : Context} {ps : List ℕ} {start now : List Class} {x : Context} {k : ℕ}
    (w : StatePass by_context context_past begin ps start now x k) where
  -- what is known one index later
  known_further : (n : ℕ) →
      ((i : ℕ) → k ≤ i → i < k + suc n → is_passed x.preceding.strong (class_at now (slice_index ps i)) ≡ true) →
      context_past_run x ps k (suc n) now ≡ unchanged_past (context_past_run x ps k n now)
      (class_at now (slice_index ps (k + n)))
  known_further zero h = refl
  known_further (suc m) h =
      sym (unchanged_twice x (class_at now (slice_index ps (k + m))) (class_at now (slice_index ps (k + suc m)))
      (h (k + m) (omega arith) (omega arith)) (h (k + suc m) (omega arith) (omega arith)))

  -- the pass continues over the classes that are passed
  pub state_pass_past_run : (n : ℕ) → k + n ≤ length ps →
      ((i : ℕ) → k ≤ i → i < k + n → is_passed x.preceding.strong (class_at now (slice_index ps i)) ≡ true) →
      StatePass by_context context_past begin ps start now (context_past_run x ps k n now) (k + n)
  state_pass_past_run zero within h = let e : k ≡ k + 0 = omega arith in
      subst (λ m. StatePass by_context context_past begin ps start now x m) e w
  state_pass_past_run (suc n) within h =
      let before : StatePass by_context context_past begin ps start now (context_past_run x ps k n now) (k + n) =
      state_pass_past_run n (omega arith) (λ i low high. h i low (omega arith)) in
      let inside : k + n < length ps = omega arith in
      let idle : may_weaken (class_at now (slice_index ps (k + n))) ≡ false =
      passed-idle x.preceding.strong (class_at now (slice_index ps (k + n)))
      (h (k + n) (omega arith) (omega arith)) in
      let e : k + n + 1 ≡ k + suc n = omega arith in
      subst (λ m. StatePass by_context context_past begin ps start now (context_past_run x ps k (suc n) now) m) e
      (state_pass_unchanged before inside idle (context_past_run x ps k (suc n) now) (known_further n h))

  -- each takes a step
  pub state_pass_steps_past_run : (first last : ℕ) → StatePassSteps owed_in (classes_at start ps) x k first last →
      (n : ℕ) → k + n ≤ length ps →
      ((i : ℕ) → k ≤ i → i < k + n → is_passed x.preceding.strong (class_at now (slice_index ps i)) ≡ true) →
      StatePassSteps owed_in (classes_at start ps) (context_past_run x ps k n now) (k + n) first (last + n)
  state_pass_steps_past_run first last s zero within h =
      let e : k ≡ k + 0 = omega arith in
      let f : last ≡ last + 0 = omega arith in
      subst (λ m. StatePassSteps owed_in (classes_at start ps) x m first (last + 0)) e
      (subst (λ m. StatePassSteps owed_in (classes_at start ps) x k first m) f s)
  state_pass_steps_past_run first last s (suc n) within h =
      let before : StatePass by_context context_past begin ps start now (context_past_run x ps k n now) (k + n) =
      state_pass_past_run n (omega arith) (λ i low high. h i low (omega arith)) in
      let inside : k + n < length ps = omega arith in
      let idle : may_weaken (class_at now (slice_index ps (k + n))) ≡ false =
      passed-idle x.preceding.strong (class_at now (slice_index ps (k + n)))
      (h (k + n) (omega arith) (omega arith)) in
      let less = state_pass_steps_past_run first last s n (omega arith) (λ i low high. h i low (omega arith)) in
      let e : k + n + 1 ≡ k + suc n = omega arith in
      let f : last + n + 1 ≡ last + suc n = omega arith in
      subst (λ m. StatePassSteps owed_in (classes_at start ps) (context_past_run x ps k (suc n) now) m first
      (last + suc n)) e
      (subst (λ m. StatePassSteps owed_in (classes_at start ps) (context_past_run x ps k (suc n) now)
      (k + n + 1) first m) f
      (state_pass_steps_unchanged before inside idle (context_past_run x ps k (suc n) now) (known_further n h) first
      (last + n) less))

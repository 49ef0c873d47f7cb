-- A run of one class along a sequence, over which a pass continues.
use Rattle.std.specs.Prelude.{Option, Some, ℕ, zero, suc, ◌+◌, ◌-◌, ◌<◌, ◌≤◌, ◌≡◌, List, ◌∷◌, length, slice_index, refl}
use Rattle.std.proofs.Common.{arith, ap, sym, subst, ◌∙◌, drop, inl, inr, set}
use Rattle.std.proofs.lemmas.Bool.{cases_eq}
use Rattle.std.proofs.lemmas.List.{get_or-set_other}
use Rattle.units.specs.Classes.{class_at, classes_at}
use Rattle.units.specs.Implicit.{implicit_level}
use Rattle.units.specs.declared.class.Class.{Class}
use Rattle.units.specs.declared.class.Class.TheVariants.{L}
use Rattle.sequences.specs.Links.{ArePositions}
use Rattle.resolve.specs.Repeats.{with_along, AreAll}
use Rattle.resolve.proofs.Gathered.{apart}
use Rattle.resolve.proofs.Raising.{RaisePass, raise_write}
use Rattle.resolve.proofs.StatePasses.{StatePass, StatePassSteps, after_state_pass, state_pass_next, state_pass_value, state_pass_steps_next}

-- the class at a later index is unchanged
pub unwritten : (ps : List ℕ) (start n j : ℕ) (v : Class) (cs : List Class) → ArePositions ps (length cs) →
    start + n ≤ j → j < length ps →
    class_at (with_along ps start n v cs) (slice_index ps j) ≡ class_at cs (slice_index ps j)
unwritten ps start zero j v cs are low within = refl
unwritten ps start (suc n) j v cs are low within =
    get_or-set_other (with_along ps start n v cs) (slice_index ps (start + n)) (slice_index ps j) v L
    (apart ps (length cs) j (start + n) are within (omega arith) (omega arith))
    ∙ unwritten ps start n j v cs are (omega arith) within

-- no index
pub along_none : {X : Type 0} (ps : List ℕ) (start : ℕ) (v : X) (xs : List X) →
    xs ≡ with_along ps start (start - start) v xs
along_none ps start v xs = let none : 0 ≡ start - start = omega arith in ap (λ (n : ℕ). with_along ps start n v xs) none

pub all_of_none : {IsSuch : Class → Type 0} {ps : List ℕ} {start : ℕ} {cs : List Class} → start ≤ length ps →
    AreAll IsSuch ps start start cs
all_of_none within = record { from_start = omega arith; within = within; each = λ k low high. absurd (omega arith) }

-- one index more
pub all_more : {IsSuch : Class → Type 0} {ps : List ℕ} {start k : ℕ} {cs : List Class} → AreAll IsSuch ps start k cs →
    k < length ps → IsSuch (class_at cs (slice_index ps k)) →
    AreAll IsSuch ps start (k + 1) cs
all_more {IsSuch} {ps} {start} {k} {cs} all inside here = record {
  from_start = omega (arith, all.from_start);
  within = omega arith;
  each = λ i from to. elim (cases_eq i k) [
    | inl e ↦ subst (λ j. IsSuch (class_at cs (slice_index ps j))) (sym e) here
    | inr ne ↦ all.each i from (omega arith)
  ];
}

-- the same if the classes before have been written
pub all_more_written : {IsSuch : Class → Type 0} {ps : List ℕ} {start k : ℕ} {old now : List Class} (made : Class) →
    ArePositions ps (length old) → now ≡ with_along ps start (k - start) made old →
    AreAll IsSuch ps start k old → k < length ps → IsSuch (class_at now (slice_index ps k)) →
    AreAll IsSuch ps start (k + 1) old
all_more_written {IsSuch} {ps} {start} {k} {old} {now} made are is all inside here =
    let unchanged : class_at now (slice_index ps k) ≡ class_at old (slice_index ps k) =
    ap (λ (cs : List Class). class_at cs (slice_index ps k)) is ∙
    unwritten ps start (k - start) k made old are (omega (arith, all.from_start)) inside in
    all_more all inside (subst IsSuch unchanged here)

pub along_next : {X : Type 0} {start k : ℕ} {now : List X} (ps : List ℕ) (v : X) (xs : List X) → start ≤ k →
    now ≡ with_along ps start (k - start) v xs →
    set now (slice_index ps k) v ≡ with_along ps start (k + 1 - start) v xs
along_next {X} {start} {k} {now} ps v xs low is =
    let more : k + 1 - start ≡ suc (k - start) = omega arith in
    let there : start + (k - start) ≡ k = omega arith in
    ap (λ (ys : List X). set ys (slice_index ps k) v) is ∙
    ap (λ i. set (with_along ps start (k - start) v xs) (slice_index ps i) v) (sym there) ∙
    ap (λ m. with_along ps start m v xs) (sym more)

module _ {X : Type 0} {given : X → Class → List Class → Class} {past : X → Class → List Class →
    X} {begin : X} {ps : List ℕ} {start now : List Class} {x : X} {k : ℕ}
    (w : StatePass given past begin ps start now x k) (class made : Class) (gives : (cs : List Class) →
    given x class cs ≡ made) (stays : (cs : List Class) → past x class cs ≡ x) where
  -- the class at the next index after n indices of a run
  run_reads : (n : ℕ) → k + n < length ps → class_at now (slice_index ps (k + n)) ≡ class →
      class_at (with_along ps k n made now) (slice_index ps (k + n)) ≡ class
  run_reads n within same = unwritten ps k n (k + n) made now w.pass.positions (omega arith) within ∙ same

  -- a run gets one class, and what is known after it is unchanged
  pub state_pass_run : (n : ℕ) → k + n ≤ length ps →
      ((i : ℕ) → k ≤ i → i < k + n → class_at now (slice_index ps i) ≡ class) →
      StatePass given past begin ps start (with_along ps k n made now) x (k + n)
  state_pass_run zero within same = let e : k ≡ k + 0 = omega arith in
      subst (λ m. StatePass given past begin ps start now x m) e w
  state_pass_run (suc n) within same =
      let before : StatePass given past begin ps start (with_along ps k n made now) x (k + n) =
      state_pass_run n (omega arith) (λ i low high. same i low (omega arith)) in
      let inside : k + n < length ps = omega arith in
      let read = run_reads n inside (same (k + n) (omega arith) (omega arith)) in
      let cs : List Class = classes_at (with_along ps k n made now) (drop (k + n + 1) ps) in
      let e : k + n + 1 ≡ k + suc n = omega arith in
      subst (λ m. StatePass given past begin ps start (with_along ps k (suc n) made now) x m) e
      (state_pass_next before inside made x (drop (k + n + 1) ps) refl
      (sym (ap (λ (c : Class). given x c cs) read ∙ gives cs))
      (sym (ap (λ (c : Class). past x c cs) read ∙ stays cs)))

  -- the class that the pass gives to each class of a run
  pub run_value : (n : ℕ) → k + n < length ps →
      ((i : ℕ) → k ≤ i → i ≤ k + n → class_at now (slice_index ps i) ≡ class) →
      made ≡ class_at (after_state_pass given past begin (classes_at start ps)) (k + n)
  run_value n inside same =
      let before = state_pass_run n (omega arith) (λ i low high. same i low (omega arith)) in
      let read = run_reads n inside (same (k + n) (omega arith) (omega arith)) in
      let cs : List Class = classes_at (with_along ps k n made now) (drop (k + n + 1) ps) in
      sym (ap (λ (c : Class). given x c cs) read ∙ gives cs) ∙ state_pass_value before inside (drop (k + n + 1) ps) refl

  -- a step for each class of a run
  pub state_pass_steps_run : (owed : X → List Class → ℕ) → ((cs : List Class) → owed x (class ∷ cs) ≤ owed x cs + 1) →
      (first last : ℕ) →
      StatePassSteps owed (classes_at start ps) x k first last →
      (n : ℕ) → k + n ≤ length ps → ((i : ℕ) → k ≤ i → i < k + n → class_at now (slice_index ps i) ≡ class) →
      StatePassSteps owed (classes_at start ps) x (k + n) first (last + n)
  state_pass_steps_run owed owes first last s zero within same =
      let e : k ≡ k + 0 = omega arith in
      let f : last ≡ last + 0 = omega arith in
      subst (λ m. StatePassSteps owed (classes_at start ps) x m first (last + 0)) e
      (subst (λ m. StatePassSteps owed (classes_at start ps) x k first m) f s)
  state_pass_steps_run owed owes first last s (suc n) within same =
      let before = state_pass_run n (omega arith) (λ i low high. same i low (omega arith)) in
      let inside : k + n < length ps = omega arith in
      let read = run_reads n inside (same (k + n) (omega arith) (omega arith)) in
      let cs : List Class = classes_at (with_along ps k n made now) (drop (k + n + 1) ps) in
      let less = state_pass_steps_run owed owes first last s n (omega arith) (λ i low high. same i low (omega arith)) in
      let most : owed x (class_at (with_along ps k n made now) (slice_index ps (k + n)) ∷ cs) ≤ owed x cs + 1 =
      subst (λ (c : Class). owed x (c ∷ cs) ≤ owed x cs + 1) (sym read) (owes cs) in
      let e : k + n + 1 ≡ k + suc n = omega arith in
      subst (λ m. StatePassSteps owed (classes_at start ps) x m first (last + suc n)) e
      (state_pass_steps_next before inside owed x (drop (k + n + 1) ps) refl first (last + n) (last + suc n) less
      (omega arith) (omega arith))

-- a run is given one level
pub raise_run : {level : ℕ} {to : List Class} {ps : List ℕ} {old now : List (Option ℕ)} {k : ℕ} →
    RaisePass level to ps old now k → (v : ℕ) (n : ℕ) → k + n ≤ length ps →
    ((i : ℕ) → k ≤ i → i < k + n → v ≡ implicit_level level (class_at to i)) →
    RaisePass level to ps old (with_along ps k n (Some v) now) (k + n)
raise_run {level} {to} {ps} {old} {now} {k} w v zero within is = let e : k ≡ k + 0 = omega arith in
    subst (λ m. RaisePass level to ps old now m) e w
raise_run {level} {to} {ps} {old} {now} {k} w v (suc n) within is =
    let before = raise_run w v n (omega arith) (λ i low high. is i low (omega arith)) in
    let e : k + n + 1 ≡ k + suc n = omega arith in
    subst (λ m. RaisePass level to ps old (with_along ps k (suc n) (Some v) now) m) e
    (raise_write before (omega arith) v (is (k + n) (omega arith) (omega arith)))

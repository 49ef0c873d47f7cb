-- A pass with a state along a sequence: it changes each class by what is known about the classes before it, and by the
-- old classes after it.
use Rattle.std.specs.Prelude.{ℕ, suc, ◌+◌, ◌*◌, ◌<◌, ◌≤◌, ◌≡◌, List, [], ◌∷◌, length, slice_index, refl}
use Rattle.std.proofs.Common.{arith, ap, sym, ◌∙◌, drop, set}
use Rattle.std.proofs.lemmas.List.{drop_all}
use Rattle.units.specs.Classes.{class_at, classes_at}
use Rattle.units.specs.declared.class.Class.{Class}
use Rattle.sequences.specs.Links.{ArePositions}
use Rattle.resolve.specs.Rewritten.{Rewrites}
use Rattle.resolve.proofs.AtEach.{drop-class_at}
use Rattle.resolve.proofs.Gathered.{length-classes_at}
use Rattle.resolve.proofs.Passes.{Pass, pass_start, pass_end, pass_reads, pass_within, pass_ahead, pass_write}

-- the classes after the pass: `given` is the next one, and `past` what is known after it
abbrev pub after_state_pass : {X : Type 0} → (X → Class → List Class → Class) → (X → Class → List Class → X) → X →
    List Class → List Class
after_state_pass given past x [] = []
after_state_pass given past x (c ∷ cs) = given x c cs ∷ after_state_pass given past (past x c cs) cs

length-after_state_pass : {X : Type 0} (given : X → Class → List Class → Class) (past : X → Class → List Class →
    X) (x : X) (cs : List Class) →
    length (after_state_pass given past x cs) ≡ length cs
length-after_state_pass given past x [] = refl
length-after_state_pass given past x (c ∷ cs) = ap (λ n. suc n) (length-after_state_pass given past (past x c cs) cs)

-- the pass has come from `begin` to index k, where it knows x
pub record StatePass {X : Type 0} (given : X → Class → List Class → Class) (past : X → Class → List Class →
    X) (begin : X) (ps : List ℕ) (start now : List Class) (x : X) (k : ℕ) : Type 0 where
  pub pass : Pass ps (after_state_pass given past begin (classes_at start ps)) start now k
  pub remaining : drop k (after_state_pass given past begin (classes_at start ps)) ≡
      after_state_pass given past x (drop k (classes_at start ps))

pub state_pass_start : {X : Type 0} (given : X → Class → List Class → Class) (past : X → Class → List Class →
    X) (begin : X) (ps : List ℕ) (start : List Class) →
    ArePositions ps (length start) → StatePass given past begin ps start start begin 0
state_pass_start given past begin ps start p = grind (arith, pass_start, length-after_state_pass, length-classes_at)

module _ {X : Type 0} {given : X → Class → List Class → Class} {past : X → Class → List Class →
    X} {begin : X} {ps : List ℕ} {start now : List Class} {x : X} {k : ℕ}
    (w : StatePass given past begin ps start now x k) where
  -- the classes at the end of the pass
  pub state_pass_end : (f : List Class → List Class) →
      f (classes_at start ps) ≡ after_state_pass given past begin (classes_at start ps) → length ps ≤ k →
      k ≤ length ps → Rewrites f ps start now
  state_pass_end f e low high =
      let r = pass_end (after_state_pass given past begin) w.pass low high in
      record { values = r.values ∙ sym e; others = r.others }

  module _ (inside : k < length ps) where
    -- the rest begins with the class at the index
    state_pass_here : drop k (classes_at start ps) ≡ class_at now (slice_index ps k) ∷ classes_at now (drop (k + 1) ps)
    state_pass_here =
        drop-class_at (classes_at start ps) k (pass_within w.pass inside)
        ∙ ap (λ (c : Class). c ∷ drop (k + 1) (classes_at start ps)) (sym (pass_reads w.pass inside))
        ∙ ap (λ (cs : List Class). class_at now (slice_index ps k) ∷ cs) (sym (pass_ahead w.pass inside))

    -- the class at the index, and the rest after it
    state_pass_both : (qs : List ℕ) → qs ≡ drop (k + 1) ps →
        class_at (after_state_pass given past begin (classes_at start ps)) k ∷
        drop (k + 1) (after_state_pass given past begin (classes_at start ps))
        ≡ given x (class_at now (slice_index ps k)) (classes_at now qs) ∷ after_state_pass given past
        (past x (class_at now (slice_index ps k)) (classes_at now qs)) (drop (k + 1) (classes_at start ps))
    state_pass_both qs rest =
        let from : List Class = classes_at start ps in
        let to : List Class = after_state_pass given past begin from in
        let c : Class = class_at now (slice_index ps k) in
        let within : k < length to =
        omega (arith, pass_within w.pass inside, length-after_state_pass given past begin from) in
        let seen : classes_at now qs ≡ drop (k + 1) from = ap (classes_at now) rest ∙ pass_ahead w.pass inside in
        let here : drop k from ≡ c ∷ drop (k + 1) from =
        state_pass_here ∙ ap (λ (cs : List Class). c ∷ cs) (pass_ahead w.pass inside) in
        sym (drop-class_at to k within) ∙ w.remaining ∙ ap (after_state_pass given past x) here
        ∙ ap (λ (cs : List Class). given x c cs ∷ after_state_pass given past (past x c cs) (drop (k + 1) from))
        (sym seen)

    -- the class that the pass gives to the one at its index is the final one
    pub state_pass_value : (qs : List ℕ) → qs ≡ drop (k + 1) ps →
        given x (class_at now (slice_index ps k)) (classes_at now qs) ≡
        class_at (after_state_pass given past begin (classes_at start ps)) k
    state_pass_value qs rest = let both = state_pass_both qs rest in cc

    -- the pass writes the class that it gives to the one at its index
    pub state_pass_next : (v : Class) (y : X) (qs : List ℕ) → qs ≡ drop (k + 1) ps →
        v ≡ given x (class_at now (slice_index ps k)) (classes_at now qs) →
        y ≡ past x (class_at now (slice_index ps k)) (classes_at now qs) →
        StatePass given past begin ps start (set now (slice_index ps k) v) y (k + 1)
    state_pass_next v y qs rest value known =
        let from : List Class = classes_at start ps in
        let to : List Class = after_state_pass given past begin from in
        let both = state_pass_both qs rest in
        let here : class_at to k ≡ given x (class_at now (slice_index ps k)) (classes_at now qs) = cc in
        let later : drop (k + 1) to ≡
        after_state_pass given past (past x (class_at now (slice_index ps k)) (classes_at now qs))
        (drop (k + 1) from) = cc in
        record {
          pass = pass_write w.pass inside v (value ∙ sym here);
          remaining = later ∙ ap (λ (y : X). after_state_pass given past y (drop (k + 1) from)) (sym known);
        }

-- the steps of a pass at index k; what it knows there owes some of them
pub record StatePassSteps {X : Type 0} (owed : X → List Class →
    ℕ) (from : List Class) (x : X) (k first last : ℕ) : Type 0 where
  pub at_least : first + k ≤ last
  pub at_most : last ≤ first + 2 * k + owed x (drop k from)

pub state_pass_steps_start : {X : Type 0} (owed : X → List Class → ℕ) (from : List Class) (x : X) (first : ℕ) →
    StatePassSteps owed from x 0 first first
state_pass_steps_start owed from x first = record { at_least = omega arith; at_most = omega arith }

pub state_pass_steps_next : {X : Type 0} {given : X → Class → List Class → Class} {past : X → Class → List Class →
    X} {begin : X} {ps : List ℕ} {start now : List Class} {x : X} {k : ℕ} →
    StatePass given past begin ps start now x k → k < length ps → (owed : X → List Class → ℕ) (y : X) (qs : List ℕ) →
    qs ≡ drop (k + 1) ps →
    (first last later : ℕ) → StatePassSteps owed (classes_at start ps) x k first last → last + 1 ≤ later →
    later + owed x (class_at now (slice_index ps k) ∷ classes_at now qs) ≤ last + 1 + owed y (classes_at now qs) + 1 →
    StatePassSteps owed (classes_at start ps) y (k + 1) first later
state_pass_steps_next {X} {given} {past} {begin} {ps} {start} {now} {x} {k} w inside owed y qs rest first last later n
    least most =
    let c : Class = class_at now (slice_index ps k) in
    let all : owed x (c ∷ classes_at now qs) ≡ owed x (drop k (classes_at start ps)) =
    ap (λ (qs : List ℕ). owed x (c ∷ classes_at now qs)) rest ∙ ap (owed x) (sym (state_pass_here w inside)) in
    let remaining : owed y (classes_at now qs) ≡ owed y (drop (k + 1) (classes_at start ps)) =
    ap (λ (qs : List ℕ). owed y (classes_at now qs)) rest ∙ ap (owed y) (pass_ahead w.pass inside) in
    record { at_least = omega (arith, n.at_least); at_most = omega (arith, n.at_most, all, remaining) }

pub state_pass_steps_end : {X : Type 0} (owed : X → List Class → ℕ) (from : List Class) (x : X) (k first last : ℕ) →
    StatePassSteps owed from x k first last →
    owed x [] ≡ 0 → length from ≤ k → last ≤ first + 2 * k
state_pass_steps_end owed from x k first last w none l = omega (arith, w.at_most, ap (owed x) (drop_all k from l), none)

-- N1 and N2 after text of the embedding direction: neutrals take this direction, whatever comes after them.
use Rattle.std.specs.Prelude.{true, ℕ, zero, suc, ◌+◌, ◌<◌, ◌≤◌, ◌≡◌, List, [], ◌∷◌, length, slice_index, refl}
use Rattle.std.proofs.Common.{arith, ap, sym, subst, ◌∙◌, ◌⊎◌, inl, inr, drop}
use Rattle.std.proofs.lemmas.Bool.{cases_Bool, cond-true, cond-false, false≢true}
use Rattle.std.proofs.lemmas.List.{drop-drop}
use Rattle.units.specs.Classes.{class_at, classes_at, is_neutral}
use Rattle.units.specs.Neutral.{side_of, agreed, by_sides}
use Rattle.units.specs.Runs.{direction_of}
use Rattle.units.specs.declared.class.Class.{Class}
use Rattle.units.specs.declared.class.Class.TheVariants.{L, R}
use Rattle.resolve.specs.ClassSets.{is_neutral_or}
use Rattle.resolve.specs.Ahead.{first_class}
use Rattle.resolve.specs.Neutrals.{is_no_neutral, taken_before, by_run, sides_past, owed_in_run}
use Rattle.resolve.specs.Repeats.{with_along}
use Rattle.resolve.specs.declared.neutral.Sides.{Sides}
use Rattle.resolve.proofs.Along.{unwritten}
use Rattle.resolve.proofs.Repeats.{inside_run, outside_runs, owes_less}
use Rattle.resolve.proofs.StatePasses.{StatePass, StatePassSteps, after_state_pass, state_pass_next, state_pass_value}

-- a direction is its own side
pub side_of-direction : (level : ℕ) → side_of (direction_of level) ≡ direction_of level
side_of-direction level = grind arith

agreed_same : (d after : Class) → agreed d after d ≡ d
agreed_same L L = refl
agreed_same L after = refl
agreed_same R R = refl
agreed_same R after = refl
agreed_same d after = refl

by_sides_same : (d after : Class) → side_of d ≡ d → by_sides d d after ≡ d
by_sides_same d after side = ap (λ (b : Class). agreed b (side_of after) d) side ∙ agreed_same d (side_of after)

-- such a class is the direction or a neutral
neutral_or_parts : (d c : Class) → is_neutral_or d c ≡ true → (is_neutral c ≡ true) ⊎ (c ≡ d)
neutral_or_parts L L h = inr refl
neutral_or_parts R R h = inr refl
neutral_or_parts d c h = inl h

-- a neutral that comes next takes the embedding direction
pub record TakesEmbedding (d : Class) (x : Sides) : Type 0 where
  pub embedding : x.embedding ≡ d
  pub takes : (cs : List Class) → taken_before x cs ≡ d

takes_embedding_inside : (d : Class) (x : Sides) → x.embedding ≡ d → TakesEmbedding d (inside_run x d)
takes_embedding_inside d x e = record { embedding = e; takes = λ cs. refl }

takes_embedding_outside : (d : Class) (x : Sides) → x.embedding ≡ d → side_of d ≡ d →
    TakesEmbedding d (outside_runs x d)
takes_embedding_outside d x e side = record {
  embedding = e;
  takes = λ cs. let after : Class =
      first_class is_no_neutral cs x.end in ap (λ (f : Class). by_sides f d after) e ∙ by_sides_same d after side;
}

-- the embedding direction is unchanged
pub past_embedding : (x : Sides) (c : Class) (cs : List Class) → (sides_past x c cs).embedding ≡ x.embedding
past_embedding x c cs =
    elim (cases_Bool (is_neutral c)) [
      | inl t ↦ ap (λ (y : Sides). y.embedding) (cond-true (is_neutral c) (inside_run x (taken_before x cs))
          (outside_runs x c) t)
      | inr f ↦ ap (λ (y : Sides). y.embedding) (cond-false (is_neutral c) (inside_run x (taken_before x cs))
          (outside_runs x c) f)
    ]

-- what is known after a class that became the embedding direction
pub takes_embedding_after : (d : Class) (x y : Sides) (c made : Class) (cs : List Class) → side_of d ≡ d →
    x.embedding ≡ d → made ≡ d →
    made ≡ by_run x c cs → y ≡ sides_past x c cs → TakesEmbedding d y
takes_embedding_after d x y c made cs side embedding is value known =
    elim (cases_Bool (is_neutral c)) [
      | inl t ↦
          let took : taken_before x cs ≡ d = sym (cond-true (is_neutral c) (taken_before x cs) c t) ∙ sym value ∙ is in
          let e : y ≡ inside_run x d =
          known ∙ cond-true (is_neutral c) (inside_run x (taken_before x cs)) (outside_runs x c) t ∙
          ap (inside_run x) took in
          subst (TakesEmbedding d) (sym e) (takes_embedding_inside d x embedding)
      | inr f ↦
          let own : c ≡ d = sym (cond-false (is_neutral c) (taken_before x cs) c f) ∙ sym value ∙ is in
          let e : y ≡ outside_runs x d =
          known ∙ cond-false (is_neutral c) (inside_run x (taken_before x cs)) (outside_runs x c) f ∙
          ap (outside_runs x) own in
          subst (TakesEmbedding d) (sym e) (takes_embedding_outside d x embedding side)
    ]

module _ (d : Class) (side : side_of d ≡ d) where
  -- a neutral, or the direction itself, becomes the direction
  neutral_or_given : (x : Sides) → TakesEmbedding d x → (c : Class) (cs : List Class) → is_neutral_or d c ≡ true →
      by_run x c cs ≡ d
  neutral_or_given x l c cs h =
      elim (cases_Bool (is_neutral c)) [
        | inl t ↦ cond-true (is_neutral c) (taken_before x cs) c t ∙ l.takes cs
        | inr f ↦ elim (neutral_or_parts d c h) [
          | inl t ↦ absurd (false≢true (sym f ∙ t))
          | inr e ↦ cond-false (is_neutral c) (taken_before x cs) c f ∙ e
        ]
      ]

  -- and after it a neutral would still take the direction
  neutral_or_past : (x : Sides) → TakesEmbedding d x → (c : Class) (cs : List Class) → is_neutral_or d c ≡ true →
      TakesEmbedding d (sides_past x c cs)
  neutral_or_past x l c cs h =
      takes_embedding_after d x (sides_past x c cs) c (by_run x c cs) cs side l.embedding
      (neutral_or_given x l c cs h) refl refl

  past_end : (x : Sides) (c : Class) (cs : List Class) → (sides_past x c cs).end ≡ x.end
  past_end x c cs =
      elim (cases_Bool (is_neutral c)) [
        | inl t ↦ ap (λ (y : Sides). y.end) (cond-true (is_neutral c) (inside_run x (taken_before x cs))
            (outside_runs x c) t)
        | inr f ↦ ap (λ (y : Sides). y.end) (cond-false (is_neutral c) (inside_run x (taken_before x cs))
            (outside_runs x c) f)
      ]

  -- only that and the end of the sequence matter
  neutral_or_alike : (x y : Sides) → TakesEmbedding d x → TakesEmbedding d y → x.end ≡ y.end → (cs : List Class) →
      after_state_pass by_run sides_past x cs ≡ after_state_pass by_run sides_past y cs
  neutral_or_alike x y l m end [] = refl
  neutral_or_alike x y l m end (c ∷ cs) =
      elim (cases_Bool (is_neutral c)) [
        | inl t ↦
            let x_is : sides_past x c cs ≡ inside_run x d =
            cond-true (is_neutral c) (inside_run x (taken_before x cs)) (outside_runs x c) t ∙
            ap (inside_run x) (l.takes cs) in
            let y_is : sides_past y c cs ≡ inside_run y d =
            cond-true (is_neutral c) (inside_run y (taken_before y cs)) (outside_runs y c) t ∙
            ap (inside_run y) (m.takes cs) in
            let given_x : by_run x c cs ≡ d = cond-true (is_neutral c) (taken_before x cs) c t ∙ l.takes cs in
            let given_y : by_run y c cs ≡ d = cond-true (is_neutral c) (taken_before y cs) c t ∙ m.takes cs in
            let rest : after_state_pass by_run sides_past (inside_run x d) cs ≡
            after_state_pass by_run sides_past (inside_run y d) cs =
            neutral_or_alike (inside_run x d) (inside_run y d) (takes_embedding_inside d x l.embedding)
            (takes_embedding_inside d y m.embedding) end cs in
            ap (λ (e : Class). e ∷ after_state_pass by_run sides_past (sides_past x c cs) cs) (given_x ∙ sym given_y)
            ∙ ap (λ (ds : List Class). by_run y c cs ∷ ds)
            (ap (λ (z : Sides). after_state_pass by_run sides_past z cs) x_is ∙ rest ∙
            sym (ap (λ (z : Sides). after_state_pass by_run sides_past z cs) y_is))
        | inr f ↦
            let same : outside_runs x c ≡ outside_runs y c = cc (l.embedding, m.embedding, end) in
            let x_is : sides_past x c cs ≡ outside_runs x c =
            cond-false (is_neutral c) (inside_run x (taken_before x cs)) (outside_runs x c) f in
            let y_is : sides_past y c cs ≡ outside_runs y c =
            cond-false (is_neutral c) (inside_run y (taken_before y cs)) (outside_runs y c) f in
            let given_x : by_run x c cs ≡ c = cond-false (is_neutral c) (taken_before x cs) c f in
            let given_y : by_run y c cs ≡ c = cond-false (is_neutral c) (taken_before y cs) c f in
            ap (λ (e : Class). e ∷ after_state_pass by_run sides_past (sides_past x c cs) cs) (given_x ∙ sym given_y)
            ∙ ap (λ (z : Sides). by_run y c cs ∷ after_state_pass by_run sides_past z cs) (x_is ∙ same ∙ sym y_is)
      ]

  module _ {begin : Sides} {ps : List ℕ} {start now : List Class} {x : Sides} {k : ℕ}
      (w : StatePass by_run sides_past begin ps start now x k) (l : TakesEmbedding d x) where
    neutral_or_reads : (n : ℕ) → k + n < length ps → is_neutral_or d (class_at now (slice_index ps (k + n))) ≡ true →
        is_neutral_or d (class_at (with_along ps k n d now) (slice_index ps (k + n))) ≡ true
    neutral_or_reads n within h =
        ap (is_neutral_or d) (unwritten ps k n (k + n) d now w.pass.positions (omega arith) within) ∙ h

    -- the pass continues over neutrals and this direction
    pub state_pass_neutral_or : (n : ℕ) → k + n ≤ length ps →
        ((i : ℕ) → k ≤ i → i < k + n → is_neutral_or d (class_at now (slice_index ps i)) ≡ true) →
        StatePass by_run sides_past begin ps start (with_along ps k n d now) x (k + n)
    state_pass_neutral_or zero within h = let e : k ≡ k + 0 = omega arith in
        subst (λ m. StatePass by_run sides_past begin ps start now x m) e w
    state_pass_neutral_or (suc n) within h =
        let before : StatePass by_run sides_past begin ps start (with_along ps k n d now) x (k + n) =
        state_pass_neutral_or n (omega arith) (λ i low high. h i low (omega arith)) in
        let inside : k + n < length ps = omega arith in
        let c : Class = class_at (with_along ps k n d now) (slice_index ps (k + n)) in
        let neutral_or : is_neutral_or d c ≡ true = neutral_or_reads n inside (h (k + n) (omega arith) (omega arith)) in
        let cs : List Class = classes_at (with_along ps k n d now) (drop (k + n + 1) ps) in
        let next : StatePass by_run sides_past begin ps start (with_along ps k (suc n) d now) (sides_past x c cs)
        (k + n + 1) =
        state_pass_next before inside d (sides_past x c cs) (drop (k + n + 1) ps) refl
        (sym (neutral_or_given x l c cs neutral_or)) refl in
        let alike = neutral_or_alike (sides_past x c cs) x (neutral_or_past x l c cs neutral_or) l (past_end x c cs)
        (drop (k + n + 1) (classes_at start ps)) in
        let e : k + n + 1 ≡ k + suc n = omega arith in
        subst (λ m. StatePass by_run sides_past begin ps start (with_along ps k (suc n) d now) x m) e (record {
          pass =
              next.pass;
          remaining = next.remaining ∙ alike;
        })

    -- the class that the pass gives to each
    pub neutral_or_value : (n : ℕ) → k + n < length ps →
        ((i : ℕ) → k ≤ i → i ≤ k + n → is_neutral_or d (class_at now (slice_index ps i)) ≡ true) →
        d ≡ class_at (after_state_pass by_run sides_past begin (classes_at start ps)) (k + n)
    neutral_or_value n inside h =
        let before = state_pass_neutral_or n (omega arith) (λ i low high. h i low (omega arith)) in
        let c : Class = class_at (with_along ps k n d now) (slice_index ps (k + n)) in
        let neutral_or : is_neutral_or d c ≡ true = neutral_or_reads n inside (h (k + n) (omega arith) (omega arith)) in
        let cs : List Class = classes_at (with_along ps k n d now) (drop (k + n + 1) ps) in
        sym (neutral_or_given x l c cs neutral_or) ∙ state_pass_value before inside (drop (k + n + 1) ps) refl

no_fewer : (a n : ℕ) → a ≤ a + n
no_fewer a n = omega arith

owes_front : (x : Sides) (n : ℕ) (cs : List Class) → owed_in_run x cs ≤ owed_in_run x (drop n cs) + n
owes_front x zero cs = no_fewer (owed_in_run x cs) zero
owes_front x (suc n) [] = no_fewer (owed_in_run x []) (suc n)
owes_front x (suc n) (c ∷ cs) = omega (arith, owes_less x c cs, owes_front x n cs)

owes_fewer : (x : Sides) (k n : ℕ) (cs : List Class) → owed_in_run x (drop k cs) ≤ owed_in_run x (drop (k + n) cs) + n
owes_fewer x k n cs = omega (arith, owes_front x n (drop k cs), ap (owed_in_run x) (drop-drop n k cs))

-- each takes a step
pub neutral_or_steps : (x : Sides) (k n first last : ℕ) (cs : List Class) →
    StatePassSteps owed_in_run cs x k first last → StatePassSteps owed_in_run cs x (k + n) first (last + n)
neutral_or_steps x k n first last cs s = record {
  at_least = omega (arith, s.at_least);
  at_most =
      omega (arith, s.at_most, owes_fewer x k n cs);
}

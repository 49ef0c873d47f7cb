-- One pass with a stack of open initiators writes the partner of every position.
use Rattle.std.proofs.Common.{◌≡◌, ◌≢◌, ℕ, suc, ◌+◌, ◌<◌, true, false, List, length, Option, Some, None, inl, inr, sym, ap, ◌∙◌, subst, arith}
use Rattle.std.proofs.lemmas.Bool.{cases_eq, true≢false, false_from_ne_true}
use Rattle.units.specs.Classes.{class_at, is_isolate_initiator, is_pdi}
use Rattle.units.specs.Isolates.{matching_pdi, matching_initiator, partner_of}
use Rattle.units.specs.declared.class.Class.{Class}
use Rattle.explicit.proofs.Holders.Roles.{opening, closing, other, kind_of}
use Rattle.units.specs.Positions.{as_many}
use Rattle.explicit.proofs.Matched.Balance.{match_new, match_stays, match_extends, match_within, match_of_bounds, stays_unclosed}
use Rattle.explicit.proofs.Matched.OpenStack.{unlevel_at_other, unlevel_at_opening, unlevel_at_closing, stack_empty, stack_stays, stack_push, top_is_closed, stack_pop, stack_none_open}
use Rattle.explicit.proofs.Matched.Matching.{opens_at, closes_at, matching_before, IsOpenStack, matching_pdi_of, matching_pdi_none, matching_pdi_opens, matching_pdi_before}
use Rattle.units.proofs.Positions.{last_below_is, last_below_nowhere, same_position_true, same_position_refl}

-- the match of an initiator after one more position
pub matching_unchanged : (cs : List Class) (k i : ℕ) → i < k →
    (matching_before cs k i ≡ None → as_many (opens_at cs) (closes_at cs) i k ≡ false) →
    matching_before cs (k + 1) i ≡ matching_before cs k i
matching_unchanged cs k i h u = grind (arith, stays_unclosed, match_stays)

pub same_at_opening : (cs : List Class) (k m i : ℕ) (s : ℕ → ℕ) → IsOpenStack cs k m s →
    is_isolate_initiator (class_at cs k) ≡ true → is_pdi (class_at cs k) ≡ false → i < k →
    is_isolate_initiator (class_at cs i) ≡ true → matching_before cs (k + 1) i ≡ matching_before cs k i
same_at_opening cs k m i s stack o c h opener =
    matching_unchanged cs k i h (λ none. let at = stack.complete i h opener none in
    rw (← at.2) (unlevel_at_opening (opens_at cs) (closes_at cs) k m s stack o c at.0 at.1))

pub same_at_other : (cs : List Class) (k m i : ℕ) (s : ℕ → ℕ) → IsOpenStack cs k m s →
    is_isolate_initiator (class_at cs k) ≡ false → is_pdi (class_at cs k) ≡ false → i < k →
    is_isolate_initiator (class_at cs i) ≡ true → matching_before cs (k + 1) i ≡ matching_before cs k i
same_at_other cs k m i s stack o c h opener =
    matching_unchanged cs k i h (λ none. let at = stack.complete i h opener none in
    rw (← at.2) (unlevel_at_other (opens_at cs) (closes_at cs) k m s stack o c at.0 at.1))

pub same_at_closing : (cs : List Class) (k n i : ℕ) (s : ℕ → ℕ) → IsOpenStack cs k (suc n) s →
    is_isolate_initiator (class_at cs k) ≡ false → is_pdi (class_at cs k) ≡ true → i < k →
    is_isolate_initiator (class_at cs i) ≡ true → i ≢ s n → matching_before cs (k + 1) i ≡ matching_before cs k i
same_at_closing cs k n i s stack o c h opener ne = grind (arith, matching_unchanged, unlevel_at_closing)

pub same_at_closing_none : (cs : List Class) (k i : ℕ) (s : ℕ → ℕ) → IsOpenStack cs k 0 s → i < k →
    is_isolate_initiator (class_at cs i) ≡ true → matching_before cs (k + 1) i ≡ matching_before cs k i
same_at_closing_none cs k i s stack h opener =
    matching_unchanged cs k i h (λ none. let at = stack.complete i h opener none in absurd (omega (arith, at.1)))

-- the initiator that the PDI at k matches
pub new_match_is_open : (cs : List Class) (k i : ℕ) → i < k → matching_before cs (k + 1) i ≡ Some k →
    matching_before cs k i ≡ None
new_match_is_open cs k i h e = grind (arith, match_stays, match_of_bounds)

-- an initiator that the PDI at k matches is open there, and its matching PDI is the first within k + 1 positions
pub matched_at : (cs : List Class) (k i : ℕ) → matching_pdi cs i ≡ Some k →
    (i < k) × (is_isolate_initiator (class_at cs i) ≡ true) × (matching_before cs (k + 1) i ≡ Some k)
matched_at cs k i e = grind (arith, matching_pdi_before, match_of_bounds, matching_pdi_opens, match_within)

pub matched_to : (cs : List Class) (k i : ℕ) → k < length cs → is_isolate_initiator (class_at cs i) ≡ true →
    matching_before cs (k + 1) i ≡ Some k → matching_pdi cs i ≡ Some k
matched_to cs k i h opener e = grind (arith, match_extends, matching_pdi_of)

pub initiator_none : (cs : List Class) (k : ℕ) (s : ℕ → ℕ) → IsOpenStack cs k 0 s → matching_initiator cs k ≡ None
unfolding matching_initiator
initiator_none cs k s stack =
    last_below_nowhere _ k (λ i h. false_from_ne_true _ (λ t.
    let at = matched_at cs k i (same_position_true _ _ t) in
    let found = stack.complete i h at.1 (new_match_is_open cs k i h at.2) in
    absurd (omega (arith, found.1))))

pub initiator_top : (cs : List Class) (k n : ℕ) (s : ℕ → ℕ) → k < length cs → IsOpenStack cs k (suc n) s →
    is_isolate_initiator (class_at cs k) ≡ false → is_pdi (class_at cs k) ≡ true → matching_initiator cs k ≡ Some (s n)
unfolding matching_initiator
initiator_top cs k n s inside stack o c =
    let lt : n < suc n = omega arith in
    let now : matching_before cs (k + 1) (s n) ≡ Some k = top_is_closed (opens_at cs) (closes_at cs) k n s stack o c in
    let whole : matching_pdi cs (s n) ≡ Some k = matched_to cs k (s n) inside (stack.opener n lt) now in
    last_below_is _ k (s n) (stack.before n lt) (rw whole (same_position_refl (Some k))) (λ i a b.
    false_from_ne_true _ (λ t.
    let at = matched_at cs k i (same_position_true _ _ t) in
    let none = new_match_is_open cs k i b at.2 in
    let retained = same_at_closing cs k n i s stack o c b at.1 (λ e. absurd (omega arith)) in
    let no : None ≡ Some k = sym none ∙ sym retained ∙ at.2 in
    absurd (cc)))

-- the pass after the first k positions: the open initiators, and the partners so far
pub record IsPass (cs : List Class) (k : ℕ) (m : ℕ) (s : ℕ → ℕ) (t : ℕ → Option ℕ) : Type 0 where
  pub stack : IsOpenStack cs k m s
  pub initiators : (p : ℕ) → p < k → is_isolate_initiator (class_at cs p) ≡ true → t p ≡ matching_before cs k p
  pub pdis : (p : ℕ) → p < k → is_pdi (class_at cs p) ≡ true → t p ≡ matching_initiator cs p
  pub others : (p : ℕ) → p < k → is_isolate_initiator (class_at cs p) ≡ false → is_pdi (class_at cs p) ≡ false →
      t p ≡ None

pub pass_none : (cs : List Class) (s : ℕ → ℕ) (t : ℕ → Option ℕ) → IsPass cs 0 0 s t
pass_none cs s t = grind (arith, stack_empty)

-- a position is below k, or k
pub at_or_below : (P : ℕ → Type 0) (k : ℕ) → P k → ((p : ℕ) → p < k → P p) → (p : ℕ) → p < k + 1 → P p
at_or_below P k here below p h = elim (cases_eq p k) [ inl e ↦ subst P (sym e) here | inr ne ↦ below p (omega arith) ]

pub pass_opening : (cs : List Class) (k m : ℕ) (s s' : ℕ → ℕ) (t t' : ℕ → Option ℕ) → IsPass cs k m s t →
    is_isolate_initiator (class_at cs k) ≡ true → ((a : ℕ) → a < m → s' a ≡ s a) → s' m ≡ k →
    ((p : ℕ) → p < k → t' p ≡ t p) → t' k ≡ None → IsPass cs (k + 1) (m + 1) s' t'
pass_opening cs k m s s' t t' pass o agree top retained here =
    grind (arith, kind_of, closing, true≢false, other, opening, stack_push, at_or_below, match_new, same_at_opening)

pub pass_other : (cs : List Class) (k m : ℕ) (s : ℕ → ℕ) (t t' : ℕ → Option ℕ) → IsPass cs k m s t →
    is_isolate_initiator (class_at cs k) ≡ false → is_pdi (class_at cs k) ≡ false → ((p : ℕ) → p < k → t' p ≡ t p) →
    t' k ≡ None → IsPass cs (k + 1) m s t'
pass_other cs k m s t t' pass o c retained here = grind (arith, stack_stays, at_or_below, true≢false, same_at_other)

pub closing_opens_nothing : (c : Class) → is_pdi c ≡ true → is_isolate_initiator c ≡ false
closing_opens_nothing c h = grind (arith, kind_of, opening, true≢false, closing, other)

pub pass_unmatched : (cs : List Class) (k : ℕ) (s : ℕ → ℕ) (t t' : ℕ → Option ℕ) → IsPass cs k 0 s t →
    is_pdi (class_at cs k) ≡ true → ((p : ℕ) → p < k → t' p ≡ t p) → t' k ≡ None → IsPass cs (k + 1) 0 s t'
pass_unmatched cs k s t t' pass c retained here =
    grind (arith, closing_opens_nothing, stack_none_open, at_or_below, true≢false, same_at_closing_none, initiator_none)

pub pass_matched : (cs : List Class) (k n : ℕ) (s : ℕ → ℕ) (t t' : ℕ → Option ℕ) → k < length cs →
    IsPass cs k (suc n) s t → is_pdi (class_at cs k) ≡ true → ((p : ℕ) → p < k → p ≢ s n → t' p ≡ t p) →
    t' (s n) ≡ Some k → t' k ≡ Some (s n) → IsPass cs (k + 1) n s t'
pass_matched cs k n s t t' inside pass c retained there here =
    let o = closing_opens_nothing (class_at cs k) c in
    let lt : n < suc n = omega arith in
    let top = pass.stack.opener n lt in
    let differs : (p : ℕ) → is_isolate_initiator (class_at cs p) ≡ false → p ≢ s n =
    λ p no e. true≢false (sym top ∙ ap (λ q. is_isolate_initiator (class_at cs q)) (sym e) ∙ no) in
    record {
      stack = stack_pop (opens_at cs) (closes_at cs) k n s pass.stack o c;
      initiators = at_or_below (λ p. is_isolate_initiator (class_at cs p) ≡ true →
          t' p ≡ matching_before cs (k + 1) p) k
          (λ opener. absurd (true≢false (sym opener ∙ o)))
          (λ p h opener. elim (cases_eq p (s n)) [
            | inl e ↦ rw e (there ∙ sym (top_is_closed (opens_at cs) (closes_at cs) k n s pass.stack o c))
            | inr ne ↦ retained p h ne ∙ pass.initiators p h opener ∙
                sym (same_at_closing cs k n p s pass.stack o c h opener ne)
          ]);
      pdis = at_or_below (λ p. is_pdi (class_at cs p) ≡ true → t' p ≡ matching_initiator cs p) k
          (λ _. here ∙ sym (initiator_top cs k n s inside pass.stack o c))
          (λ p h closer. retained p h (differs p (closing_opens_nothing (class_at cs p) closer)) ∙
          pass.pdis p h closer);
      others = at_or_below (λ p. is_isolate_initiator (class_at cs p) ≡ false → is_pdi (class_at cs p) ≡ false →
          t' p ≡ None) k
          (λ _ no. absurd (true≢false (sym c ∙ no)))
          (λ p h a b. retained p h (differs p a) ∙ pass.others p h a b);
    }

-- after the whole pass every position has its partner
pub pass_all : (cs : List Class) (m : ℕ) (s : ℕ → ℕ) (t : ℕ → Option ℕ) → IsPass cs (length cs) m s t → (p : ℕ) →
    p < length cs → t p ≡ partner_of cs p
unfolding partner_of
pass_all cs m s t pass p h = grind (arith, kind_of, opening, matching_pdi_of, closing, other, matching_pdi_none)

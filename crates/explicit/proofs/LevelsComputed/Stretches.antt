-- Successive ordinary classes: the initiators that are open there, and the levels and classes of their positions.
use Rattle.std.proofs.Common.{◌≡◌, ℕ, zero, suc, ◌+◌, ◌-◌, ◌<◌, ◌≤◌, List, length, get_or, set, Option, arith, inl, inr, refl, sym, ap, subst, ◌∙◌}
use Rattle.std.specs.Prelude.{None, Some, Bool, true, false}
use Rattle.std.proofs.lemmas.Bool.{cases_lt, false≢true}
use Rattle.units.specs.Classes.{class_at}
use Rattle.units.specs.Explicit.{explicit_at}
use Rattle.units.specs.declared.class.Class.{Class}
use Rattle.explicit.specs.StatusStacks.{Represents, state_within, leveled_in, is_ordinary}
use Rattle.explicit.specs.Stretches.{IsStretch, IsStretchWithin, leveled_by_status, with_leveled}
use Rattle.explicit.specs.declared.status.Status.{Status}
use Rattle.explicit.specs.declared.status.StatusStack.{StatusStack}
use Rattle.explicit.proofs.Holders.Open.{holders}
use Rattle.explicit.proofs.Matched.Stretched.{stretched_further, stretched_inside, stretched_length, stretched_next, stretched_none, stretched_outside}
use Rattle.explicit.proofs.LevelsComputed.ExplicitAt.{open_before, still_open_before, open_before-next, explicit-leveled_in, ordinary_is, ordinary_still_open, ordinary_opened}

-- an ordinary class closes nothing and opens nothing
ordinary-holders : (cs : List Class) (p : ℕ) → p < length cs → is_ordinary (class_at cs p) ≡ true →
    holders cs p ≡ open_before cs p
ordinary-holders cs p l o = sym (still_open_before cs p l) ∙ ordinary_still_open cs (class_at cs p) (open_before cs p) o

ordinary-next : (cs : List Class) (p : ℕ) → p < length cs → is_ordinary (class_at cs p) ≡ true →
    open_before cs (p + 1) ≡ open_before cs p
ordinary-next cs p l o = sym (open_before-next cs p) ∙ ordinary_opened cs p (holders cs p) o ∙ ordinary-holders cs p l o

module _ (cs : List Class) (from end : ℕ) (s : IsStretch is_ordinary cs from end) where
  -- what is open at the first position of the stretch is open in all of it, and after it
  pub stretch-open : (n : ℕ) → from + n ≤ end → open_before cs (from + n) ≡ open_before cs from
  stretch-open zero h = let e : from + 0 ≡ from = omega arith in ap (open_before cs) e
  stretch-open (suc n) h =
      let w = s.within in
      let e : from + suc n ≡ (from + n) + 1 = omega arith in
      ap (open_before cs) e ∙
      ordinary-next cs (from + n) (omega arith) (s.passed (from + n) (omega arith) (omega arith)) ∙
      stretch-open n (omega arith)

  module _ (depth base : ℕ) (status : Status) (level : status.level ≡
      (state_within depth cs base (open_before cs from)).level) (override_class : status.override_class ≡
      (state_within depth cs base (open_before cs from)).override) where
    pub stretch-leveled : (n : ℕ) → from + n < end →
        Some (leveled_by_status status (class_at cs (from + n))) ≡ explicit_at depth cs base (from + n)
    stretch-leveled n h =
        let w = s.within in
        let o = s.passed (from + n) (omega arith) h in
        let over = ordinary_is (class_at cs (from + n)) o in
        let same : open_before cs from ≡ holders cs (from + n) = sym (stretch-open n (omega arith)) ∙
        sym (ordinary-holders cs (from + n) (omega arith) o) in
        let here : Some (leveled_by_status status (class_at cs (from + n))) ≡
        leveled_in (state_within depth cs base (open_before cs from)) base (class_at cs (from + n)) =
        rw (over.removed_is, over.separator_is, level, override_class) refl in
        here ∙ ap (λ qs. leveled_in (state_within depth cs base qs) base (class_at cs (from + n))) same ∙
        explicit-leveled_in depth cs base (from + n)

    module _ (explicit : List (Option (ℕ × Class))) (room : end ≤ length explicit) (below : (k : ℕ) → k < from →
        get_or explicit k None ≡ explicit_at depth cs base k) where
      -- the levels and classes so far, with those of the stretch
      pub stretch-filled : (k : ℕ) → k < end →
          get_or (with_leveled status cs from end explicit) k None ≡ explicit_at depth cs base k
      stretch-filled k l = elim (cases_lt k from) [
        | inl before ↦ stretched_outside (λ p. Some (leveled_by_status status (class_at cs p))) from end explicit k
            (omega arith) (inl before) ∙ below k before
        | inr following ↦
            let e : from + (k - from) ≡ k = omega arith in
            let here : Some (leveled_by_status status (class_at cs k)) ≡ explicit_at depth cs base k =
            rw e at (stretch-leveled (k - from) (omega arith)) in
            stretched_inside (λ p. Some (leveled_by_status status (class_at cs p))) from end explicit k
            (omega arith) following l ∙ here
      ]

-- no position
pub explicit-none : (status : Status) (cs : List Class) (from : ℕ) (explicit : List (Option (ℕ × Class))) →
    with_leveled status cs from from explicit ≡ explicit
explicit-none status cs from explicit =
    stretched_none (λ p. Some (leveled_by_status status (class_at cs p))) from explicit

-- one position more
pub explicit-next : (status : Status) (cs : List Class) (from p : ℕ) (explicit : List (Option (ℕ × Class))) → from ≤ p →
    set (with_leveled status cs from p explicit) p (Some (leveled_by_status status (class_at cs p))) ≡
    with_leveled status cs from (p + 1) explicit
explicit-next status cs from p explicit low =
    stretched_next (λ q. Some (leveled_by_status status (class_at cs q))) from p explicit low

-- and many more
explicit-further : (status : Status) (cs : List Class) (from p end : ℕ) (explicit : List (Option (ℕ × Class))) →
    from ≤ p → p ≤ end →
    with_leveled status cs p end (with_leveled status cs from p explicit) ≡ with_leveled status cs from end explicit
explicit-further status cs from p end explicit low high =
    stretched_further (λ q. Some (leveled_by_status status (class_at cs q))) from p end explicit low high

pub explicit-joined : (status : Status) (cs : List Class) (from p end : ℕ)
    (explicit middle new : List (Option (ℕ × Class))) → from ≤ p → p ≤ end →
    middle ≡ with_leveled status cs from p explicit → new ≡ with_leveled status cs p end middle →
    new ≡ with_leveled status cs from end explicit
explicit-joined status cs from p end explicit middle new low high one other =
    other ∙ ap (with_leveled status cs p end) one ∙ explicit-further status cs from p end explicit low high

pub explicit-length : (status : Status) (cs : List Class) (from end : ℕ) (explicit : List (Option (ℕ × Class))) →
    length (with_leveled status cs from end explicit) ≡ length explicit
explicit-length status cs from end explicit =
    stretched_length (λ q. Some (leveled_by_status status (class_at cs q))) from end explicit

-- a stretch that goes up to its limit, and what follows it
pub stretch-joined : (test : Class → Bool) (cs : List Class) (from middle limit end : ℕ) →
    IsStretchWithin test cs from middle middle → IsStretchWithin test cs middle limit end →
    IsStretchWithin test cs from limit end
stretch-joined test cs from middle limit end one other =
    let low = one.later in
    let high = other.later in
    record {
      later = omega (arith, low, high);
      within = other.within;
      passed = λ p after before. elim (cases_lt p middle) [
        | inl under ↦ one.passed p after under
        | inr over ↦ other.passed p over before
      ];
      longest = other.longest;
    }

-- a stretch that doesn't end before its limit ends there
pub stretch-full : (test : Class → Bool) (cs : List Class) (from limit end : ℕ) →
    IsStretchWithin test cs from limit end → limit ≤ end → IsStretchWithin test cs from end end
stretch-full test cs from limit end s high = record {
  later = s.later;
  within = omega arith;
  passed = s.passed;
  longest = λ l. absurd (omega arith);
}

-- no position
pub stretch-none : (test : Class → Bool) (cs : List Class) (p : ℕ) → IsStretchWithin test cs p p p
stretch-none test cs p = record {
  later = omega arith;
  within = omega arith;
  passed = λ k from to. absurd (omega arith);
  longest = λ l. absurd (omega arith);
}

-- one position, if its class passes; none, if it fails
pub stretch-one : (test : Class → Bool) (cs : List Class) (p : ℕ) → test (class_at cs p) ≡ true →
    IsStretchWithin test cs p (p + 1) (p + 1)
stretch-one test cs p here = record {
  later = omega arith;
  within = omega arith;
  passed = λ k from to.
      let e : k ≡ p = omega arith in
      subst (λ (q : ℕ). test (class_at cs q) ≡ true) (sym e) here;
  longest = λ l. absurd (omega arith);
}

pub stretch-fails : (test : Class → Bool) (cs : List Class) (p limit : ℕ) → p ≤ limit →
    test (class_at cs p) ≡ false → IsStretchWithin test cs p limit p
stretch-fails test cs p limit high here = record {
  later = omega arith;
  within = high;
  passed = λ k from to. absurd (omega arith);
  longest = λ _. here;
}

-- a stretch from a position of an ordinary class includes that position
pub stretch-moves : (cs : List Class) (from end : ℕ) → IsStretch is_ordinary cs from end → from < length cs →
    is_ordinary (class_at cs from) ≡ true → from < end
stretch-moves cs from end s inside ordinary = let low = s.later in elim (cases_lt from end) [
  | inl more ↦ more
  | inr none ↦
      let e : end ≡ from = omega arith in
      absurd (false≢true (sym (s.longest (omega arith)) ∙ ap (λ p. is_ordinary (class_at cs p)) e ∙ ordinary))
]

-- at its end
module _ (cs : List Class) (from end : ℕ) (s : IsStretch is_ordinary cs from end) where
  whole : from + (end - from) ≡ end
  whole = let low = s.later in omega arith

  pub stretch-keeps : (depth base : ℕ) (n : StatusStack) → Represents depth cs base (open_before cs from) n →
      Represents depth cs base (open_before cs end) n
  stretch-keeps depth base n r =
      let e : open_before cs end ≡ open_before cs from = sym (ap (open_before cs) whole) ∙
      stretch-open cs from end s (end - from) (omega (arith, whole)) in
      let P : List ℕ → Type 0 = λ qs. Represents depth cs base qs n in
      subst P (sym e) r

  module _ (status : Status) (explicit new : List (Option (ℕ × Class))) (is : new ≡
      with_leveled status cs from end explicit) where
    pub stretch-room : length new ≡ length explicit
    stretch-room = ap length is ∙
        stretched_length (λ p. Some (leveled_by_status status (class_at cs p))) from end explicit

    pub stretch-explicit : (depth base : ℕ) → status.level ≡ (state_within depth cs base (open_before cs from)).level →
        status.override_class ≡ (state_within depth cs base (open_before cs from)).override → end ≤ length explicit →
        ((k : ℕ) → k < from → get_or explicit k None ≡ explicit_at depth cs base k) → (k : ℕ) → k < end →
        get_or new k None ≡ explicit_at depth cs base k
    stretch-explicit depth base level override_class room below k l =
        ap (λ (xs : List (Option (ℕ × Class))). get_or xs k None) is
        ∙ stretch-filled cs from end s depth base status level override_class explicit room below k l

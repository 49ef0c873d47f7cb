-- What the pass that finds isolates skips: there are no partners, and nothing is opened or closed.
use Rattle.std.proofs.Common.{◌≡◌, ℕ, zero, suc, ◌+◌, ◌-◌, ◌≤◌, Bool, true, false, List, length, set, Option, None, inl, inr, refl, sym, ap, subst, ◌∙◌, arith}
use Rattle.std.proofs.lemmas.Bool.{cases_lt}
use Rattle.std.specs.Prelude.{not, ◌||◌, ◌&&◌}
use Rattle.units.specs.Classes.{class_at, is_isolate_formatting, is_isolate_initiator, is_pdi, is_strong}
use Rattle.units.specs.declared.class.Class.{Class}
use Rattle.explicit.specs.Stops.{HasNoFormatting, ArePassed, is_passed, without_partners}
use Rattle.explicit.proofs.Matched.Filling.{IsFilling, filling_other}
use Rattle.explicit.proofs.Matched.Stretched.{stretched_further, stretched_length, stretched_next, stretched_none}

-- no position
pub cleared_none : (from : ℕ) (partners : List (Option ℕ)) → without_partners from from partners ≡ partners
cleared_none from partners = stretched_none (λ _. None) from partners

-- one position more
pub cleared_next : (from p : ℕ) (partners : List (Option ℕ)) → from ≤ p →
    set (without_partners from p partners) p None ≡ without_partners from (p + 1) partners
cleared_next from p partners low = stretched_next (λ _. None) from p partners low

-- four
pub cleared_four : (p : ℕ) (partners : List (Option ℕ)) (a b c d : Option ℕ) → a ≡ None → b ≡ None → c ≡ None →
    d ≡ None → set (set (set (set partners p a) (p + 1) b) (p + 2) c) (p + 3) d ≡ without_partners p (p + 4) partners
cleared_four p partners a b c d e0 e1 e2 e3 =
    let Partners : Type 0 = List (Option ℕ) in
    let upto : ℕ → Partners = λ q. without_partners p q partners in
    let two : p + 1 + 1 ≡ p + 2 = omega arith in
    let three : p + 2 + 1 ≡ p + 3 = omega arith in
    let four : p + 3 + 1 ≡ p + 4 = omega arith in
    let at1 : set partners p None ≡ upto (p + 1) = ap (λ (xs : Partners). set xs p None) (sym (cleared_none p partners)) ∙
    cleared_next p p partners (omega arith) in
    let at2 : set (upto (p + 1)) (p + 1) None ≡ upto (p + 2) = cleared_next p (p + 1) partners (omega arith) ∙
    ap upto two in
    let at3 : set (upto (p + 2)) (p + 2) None ≡ upto (p + 3) = cleared_next p (p + 2) partners (omega arith) ∙
    ap upto three in
    let at4 : set (upto (p + 3)) (p + 3) None ≡ upto (p + 4) = cleared_next p (p + 3) partners (omega arith) ∙
    ap upto four in
    rw (e0, e1, e2, e3) (ap (λ (xs : Partners). set (set (set xs (p + 1) None) (p + 2) None) (p + 3) None) at1 ∙
    ap (λ (xs : Partners). set (set xs (p + 2) None) (p + 3) None) at2 ∙
    ap (λ (xs : Partners). set xs (p + 3) None) at3 ∙ at4)

-- and many more
cleared_further : (from p end : ℕ) (partners : List (Option ℕ)) → from ≤ p → p ≤ end →
    without_partners p end (without_partners from p partners) ≡ without_partners from end partners
cleared_further from p end partners low high = stretched_further (λ _. None) from p end partners low high

pub cleared_joined : (from p end : ℕ) (partners middle new : List (Option ℕ)) → from ≤ p → p ≤ end →
    middle ≡ without_partners from p partners → new ≡ without_partners p end middle →
    new ≡ without_partners from end partners
cleared_joined from p end partners middle new low high one other =
    other ∙ ap (without_partners p end) one ∙ cleared_further from p end partners low high

pub cleared_length : (from end : ℕ) (partners : List (Option ℕ)) →
    length (without_partners from end partners) ≡ length partners
cleared_length from end partners = stretched_length (λ _. None) from end partners

-- no isolate begins or ends at either stretch
pub no_formatting_both : (cs : List Class) (from p end : ℕ) → HasNoFormatting cs from p → HasNoFormatting cs p end →
    HasNoFormatting cs from end
no_formatting_both cs from p end one other q low high = elim (cases_lt q p) [
  | inl before ↦ one q low before
  | inr following ↦ other q following high
]

-- nor at a position, if its class begins and ends none
no_formatting_one : (cs : List Class) (k : ℕ) → is_isolate_formatting (class_at cs k) ≡ false →
    HasNoFormatting cs k (k + 1)
no_formatting_one cs k here q low high =
    let e : q ≡ k = omega arith in
    subst (λ (j : ℕ). is_isolate_formatting (class_at cs j) ≡ false) (sym e) here

-- nor at two
pub no_formatting_two : (cs : List Class) (k : ℕ) → is_isolate_formatting (class_at cs k) ≡ false →
    is_isolate_formatting (class_at cs (k + 1)) ≡ false → HasNoFormatting cs k (k + 2)
no_formatting_two cs k one two q low high =
    no_formatting_both cs k (k + 1) (k + 2) (no_formatting_one cs k one)
    (λ j from to. no_formatting_one cs (k + 1) two j from (omega arith)) q low high

-- the positions that are skipped four at a time
pub passed_by_fours : (wanted : Bool) (cs : List Class) (from end : ℕ) → HasNoFormatting cs from end →
    (wanted ≡ true → end ≡ from) → ArePassed wanted cs from end
passed_by_fours true cs from end none seeks p low high = let e = seeks refl in absurd (omega arith)
passed_by_fours false cs from end none seeks p low high = rw (none p low high) refl

none_of : (a b c : Bool) → not ((a || b) || c) ≡ true → (a ≡ false) × (b ≡ false) × (c ≡ false)
none_of true b c h = absurd (cc)
none_of false true c h = absurd (cc)
none_of false false true h = absurd (cc)
none_of false false false h = (refl, refl, refl)

-- the properties of a class that is skipped
pub record IsNoStop (wanted : Bool) (c : Class) : Type 0 where
  pub initiator_is : is_isolate_initiator c ≡ false
  pub pdi_is : is_pdi c ≡ false
  pub strong_is : (wanted && is_strong c) ≡ false

pub no_stop : (wanted : Bool) (c : Class) → is_passed wanted c ≡ true → IsNoStop wanted c
no_stop wanted c h =
    let parts = none_of (is_isolate_initiator c) (is_pdi c) (wanted && is_strong c) h in
    record { initiator_is = parts.0; pdi_is = parts.1; strong_is = parts.2 }

-- after the skipped positions
pub filling_passed : (cs : List Class) (wanted : Bool) (from end depth room : ℕ) (partners : List (Option ℕ))
    (openers : List ℕ) → IsFilling cs from depth room partners openers → ArePassed wanted cs from end →
    end ≤ length cs → (n : ℕ) → from + n ≤ end →
    IsFilling cs (from + n) depth room (without_partners from (from + n) partners) openers
filling_passed cs wanted from end depth room partners openers now passed inside zero h =
    let e : from + 0 ≡ from = omega arith in
    rw (e, cleared_none from partners) now
filling_passed cs wanted from end depth room partners openers now passed inside (suc n) h =
    let e : from + suc n ≡ from + n + 1 = omega arith in
    let no = no_stop wanted (class_at cs (from + n)) (passed (from + n) (omega arith) (omega arith)) in
    rw (e, sym (cleared_next from (from + n) partners (omega arith)))
    (filling_other cs (from + n) depth room (without_partners from (from + n) partners) openers
    (filling_passed cs wanted from end depth room partners openers now passed inside n (omega arith))
    (omega arith) no.initiator_is no.pdi_is)

pub filling_passed_all : (cs : List Class) (wanted : Bool) (from end depth room : ℕ) (partners : List (Option ℕ))
    (openers : List ℕ) → IsFilling cs from depth room partners openers → ArePassed wanted cs from end →
    end ≤ length cs → from ≤ end → IsFilling cs end depth room (without_partners from end partners) openers
filling_passed_all cs wanted from end depth room partners openers now passed inside low =
    let whole : from + (end - from) ≡ end = omega arith in
    rw whole at (filling_passed cs wanted from end depth room partners openers now passed inside (end - from)
    (omega arith))

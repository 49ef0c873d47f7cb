-- Levels that are written one by one.
use Rattle.std.specs.Prelude.{Option, None, ℕ, ◌+◌, ◌<◌, ◌≤◌, ◌≡◌, List, length, max, min, ◌-◌, set, slice_index_or, if◌then◌else◌, refl}
use Rattle.std.proofs.Common.{arith, ap, subst, sym, ◌∙◌, ◌≢◌, inl, inr}
use Rattle.std.proofs.lemmas.Bool.{cases_lt, cond-false}
use Rattle.std.proofs.lemmas.List.{get_or-set_same, get_or-set_other, length-set}
use Rattle.units.specs.Classes.{is_removed}
use Rattle.units.specs.declared.bracket.Unit.{Unit as BidiUnit}
use Rattle.compress.specs.Laid.{IsRun, IsRunAfter, RemainAll}
use Rattle.compress.proofs.Counting.{at}

pub run_none : (us : List BidiUnit) (start : ℕ) (level : Option ℕ) (old : List (Option ℕ)) → IsRun us start start level old old
run_none us start level old = record {
  inside = λ p a b. absurd (omega arith);
  below = λ p lt. refl;
  above = λ p le. refl;
}

pub run_more : (us : List BidiUnit) (start p : ℕ) (level made : Option ℕ) (old levels : List (Option ℕ)) → start ≤ p → p < length levels →
    made ≡ (if is_removed (at us p).class then None else level) → IsRun us start p level old levels → IsRun us start (p + 1) level old (set levels p made)
run_more us start p level made old levels le lt e run = record {
  inside = λ q a b. elim (cases_lt q p) [
    | inl low ↦ (let apart : q ≢ p = omega arith in get_or-set_other levels p q made None apart ∙ run.inside q a low)
    | inr ge ↦
        (let same : q ≡ p = omega arith in
        ap (λ i. slice_index_or (set levels p made) i None) same ∙ get_or-set_same levels p made None lt ∙ e
        ∙ sym (ap (λ i. if is_removed (at us i).class then None else level) same))
  ];
  below = λ q low. (let apart : q ≢ p = omega arith in get_or-set_other levels p q made None apart ∙ run.below q low);
  above = λ q high. (let apart : q ≢ p = omega arith in get_or-set_other levels p q made None apart ∙ run.above q (omega arith));
}

pub remains : (us : List BidiUnit) (p : ℕ) (level : Option ℕ) → RemainAll us → p < length us → level ≡ (if is_removed (at us p).class then None else level)
remains us p level all lt = sym (cond-false (is_removed (at us p).class) None level (all p lt))

-- a run before another that has the same level, and what is between
pub run_joined : (us : List BidiUnit) (start p end : ℕ) (level : Option ℕ) (old levels new : List (Option ℕ)) → start ≤ p → p ≤ end →
    IsRun us p end level old levels → IsRun us start p level levels new → IsRun us start end level old new
run_joined us start p end level old levels new a b late early = record {
  inside = λ q x y. elim (cases_lt q p) [
    | inl low ↦ early.inside q x low
    | inr ge ↦ early.above q ge ∙ late.inside q ge y
  ];
  below = λ q lt. early.below q lt ∙ late.below q (omega arith);
  above = λ q ge. early.above q (omega arith) ∙ late.above q ge;
}

-- a run that may begin earlier
pub run_after : (us : List BidiUnit) (lowest from start end : ℕ) (level : Option ℕ) (old levels : List (Option ℕ)) → lowest ≤ from → from ≤ start →
    IsRun us from end level old levels → IsRunAfter us lowest start end level old levels
run_after us lowest from start end level old levels a b run = record {
  inside = λ q x y. run.inside q (omega arith) y;
  below = λ q lt. run.below q (omega arith);
  above = run.above;
}

pub max-second : (a b : ℕ) → a ≤ b → max a b ≡ b
max-second a b le = omega arith

-- the eight levels that are written from p on
abbrev pub with_eight : ℕ → Option ℕ → List (Option ℕ) → List (Option ℕ)
with_eight p level old =
    set (set (set (set (set (set (set (set old p level) (p + 1) level) (p + 2) level) (p + 3) level) (p + 4) level) (p + 5) level) (p + 6) level) (p + 7) level

-- one position more, of those that all remain
run_next : (us : List BidiUnit) (start p next : ℕ) (level : Option ℕ) (old levels : List (Option ℕ)) → RemainAll us → next ≡ p + 1 → start ≤ p → p < length us → p < length levels →
    IsRun us start p level old levels → IsRun us start next level old (set levels p level)
run_next us start p next level old levels all is le lt within run =
    subst (λ e. IsRun us start e level old (set levels p level)) (sym is) (run_more us start p level level old levels le within (remains us p level all lt) run)

pub run_eight : (us : List BidiUnit) (p : ℕ) (level : Option ℕ) (old : List (Option ℕ)) → RemainAll us → length old ≡ length us → p + 8 ≤ length old →
    IsRun us p (p + 8) level old (with_eight p level old)
run_eight us p level old all n le =
    let one : List (Option ℕ) = set old p level in
    let two : List (Option ℕ) = set one (p + 1) level in
    let three : List (Option ℕ) = set two (p + 2) level in
    let four : List (Option ℕ) = set three (p + 3) level in
    let five : List (Option ℕ) = set four (p + 4) level in
    let six : List (Option ℕ) = set five (p + 5) level in
    let seven : List (Option ℕ) = set six (p + 6) level in
    let l1 : length one ≡ length old = length-set old p level in
    let l2 : length two ≡ length old = length-set one (p + 1) level ∙ l1 in
    let l3 : length three ≡ length old = length-set two (p + 2) level ∙ l2 in
    let l4 : length four ≡ length old = length-set three (p + 3) level ∙ l3 in
    let l5 : length five ≡ length old = length-set four (p + 4) level ∙ l4 in
    let l6 : length six ≡ length old = length-set five (p + 5) level ∙ l5 in
    let l7 : length seven ≡ length old = length-set six (p + 6) level ∙ l6 in
    let r1 = run_next us p p (p + 1) level old old all refl (omega arith) (omega arith) (omega arith) (run_none us p level old) in
    let r2 = run_next us p (p + 1) (p + 2) level old one all (omega arith) (omega arith) (omega arith) (omega arith) r1 in
    let r3 = run_next us p (p + 2) (p + 3) level old two all (omega arith) (omega arith) (omega arith) (omega arith) r2 in
    let r4 = run_next us p (p + 3) (p + 4) level old three all (omega arith) (omega arith) (omega arith) (omega arith) r3 in
    let r5 = run_next us p (p + 4) (p + 5) level old four all (omega arith) (omega arith) (omega arith) (omega arith) r4 in
    let r6 = run_next us p (p + 5) (p + 6) level old five all (omega arith) (omega arith) (omega arith) (omega arith) r5 in
    let r7 = run_next us p (p + 6) (p + 7) level old six all (omega arith) (omega arith) (omega arith) (omega arith) r6 in
    run_next us p (p + 7) (p + 8) level old seven all (omega arith) (omega arith) (omega arith) (omega arith) r7

-- the same before their end
pub run_eight_before : (us : List BidiUnit) (end : ℕ) (level : Option ℕ) (old : List (Option ℕ)) → RemainAll us → length old ≡ length us → 8 ≤ end → end ≤ length old →
    IsRun us (end - 8) end level old (with_eight (end - 8) level old)
run_eight_before us end level old all n few le =
    let low : end - 8 + 8 ≡ end = omega (arith, few) in
    subst (λ e. IsRun us (end - 8) e level old (with_eight (end - 8) level old)) low (run_eight us (end - 8) level old all n (omega (arith, few, le)))

-- the last position alone, which has this level if it remains
pub run_last : (us : List BidiUnit) (end : ℕ) (level made : Option ℕ) (old : List (Option ℕ)) → 0 < end → end ≤ length old →
    made ≡ (if is_removed (at us (end - 1)).class then None else level) → IsRun us (end - 1) end level old (set old (end - 1) made)
run_last us end level made old some le e =
    let low : end - 1 + 1 ≡ end = omega (arith, some) in
    subst (λ q. IsRun us (end - 1) q level old (set old (end - 1) made)) low
    (run_more us (end - 1) (end - 1) level made old old (omega arith) (omega (arith, some, le)) e (run_none us (end - 1) level old))

-- the steps of eight positions, or of as many as are left
pub steps_back : (start end first after : ℕ) → start < end → 8 ≤ end → after ≡ first + min (end - start) 8 → after + max start (end - 8) ≡ first + end
steps_back start end first after lt le added = omega (arith, added)

-- The first strong classes of the isolates, noted from the paragraph's start on.
use Rattle.std.proofs.lemmas.Bool.Decides.{nat_tests}
use Rattle.std.proofs.Common.{◌≡◌, ℕ, zero, suc, ◌+◌, ◌<◌, ◌≤◌, true, false, cond, List, length, get_or, set, Option, Some, None, inl, inr, refl, sym, ap, ◌∙◌, arith}
use Rattle.std.proofs.lemmas.Bool.{cases_eq, cases_Bool, true≢false, and_from, and_left, false_from_ne_true}
use Rattle.std.proofs.lemmas.List.{get_or-set_same, get_or-set_other, length-set}
use Rattle.units.specs.Positions.{first_from}
use Rattle.units.specs.Classes.{class_at, is_isolate_initiator, is_pdi, is_strong}
use Rattle.units.specs.Classes.{is_right_to_left as is_class_right_to_left}
use Rattle.units.specs.Isolates.{isolate_around, first_strong}
use Rattle.units.specs.declared.class.Class.{Class}
use Rattle.units.specs.declared.class.Class.TheVariants.{L, R, AL}
use Rattle.explicit.specs.Sides.{HasSides, strong_side, noted, noted_at, side_at}
use Rattle.explicit.specs.declared.side.Side.{Side}
use Rattle.explicit.specs.declared.side.Side.TheVariants.{Unknown}
use Rattle.units.proofs.Positions.{or_else, first_from_more, first_from_nowhere, same_position_refl}
use Rattle.explicit.proofs.StrongSides.Around.{around_holds}
use Rattle.explicit.proofs.Matched.Matching.{IsOpenStack}
use Rattle.explicit.proofs.Holders.InnermostOpen.{around_none_open, around_last_open}
use Rattle.explicit.proofs.StrongSides.StrongInside.{is_strong_in, elsewhere}

-- a strong class is neither an isolate initiator nor a PDI
pub strong_is_other : (c : Class) → is_strong c ≡ true → (is_isolate_initiator c ≡ false) × (is_pdi c ≡ false)
strong_is_other L h = (refl, refl)
strong_is_other R h = (refl, refl)
strong_is_other AL h = (refl, refl)
strong_is_other c h = absurd (cc)

-- the side of the first strong class there, among the first k positions
abbrev pub side_before : List Class → ℕ → Option ℕ → Side
side_before cs k isolate = side_at cs (first_from (is_strong_in cs isolate) 0 k)

or_nothing : (o : Option ℕ) → or_else o None ≡ o
or_nothing None = refl
or_nothing (Some p) = refl

noted_once : (c d : Class) → noted (strong_side c) d ≡ strong_side c
noted_once c d = elim (cases_Bool (is_class_right_to_left c)) [ inl t ↦ rw t refl | inr f ↦ rw f refl ]

or_here : (cs : List Class) (k : ℕ) (o : Option ℕ) →
    side_at cs (or_else o (Some k)) ≡ noted (side_at cs o) (class_at cs k)
or_here cs k None = refl
or_here cs k (Some p) = sym (noted_once (class_at cs p) (class_at cs k))

one_more : (cs : List Class) (isolate : Option ℕ) (k : ℕ) →
    first_from (is_strong_in cs isolate) 0 (k + 1) ≡ or_else (first_from (is_strong_in cs isolate) 0 k)
    (cond (is_strong_in cs isolate k) (Some k) None)
one_more cs isolate k = grind (arith, first_from_more)

-- one position more, which is no strong class of the isolate, or is one
side_unchanged : (cs : List Class) (isolate : Option ℕ) (k : ℕ) → is_strong_in cs isolate k ≡ false →
    side_before cs (k + 1) isolate ≡ side_before cs k isolate
side_unchanged cs isolate k fails =
    ap (side_at cs) (one_more cs isolate k ∙ (rw fails (or_nothing (first_from (is_strong_in cs isolate) 0 k))))

side_noted : (cs : List Class) (isolate : Option ℕ) (k : ℕ) → is_strong_in cs isolate k ≡ true →
    side_before cs (k + 1) isolate ≡ noted (side_before cs k isolate) (class_at cs k)
side_noted cs isolate k holds = ap (side_at cs) (one_more cs isolate k ∙ (rw holds refl)) ∙
    or_here cs k (first_from (is_strong_in cs isolate) 0 k)

-- an isolate has no strong class before it begins
side_unknown : (cs : List Class) (k : ℕ) → side_before cs (k + 1) (Some k) ≡ Unknown
side_unknown cs k =
    ap (side_at cs) (first_from_nowhere (is_strong_in cs (Some k)) 0 (k + 1) (λ q a b.
    elsewhere cs (Some k) q (λ here. let after = (around_holds cs q k here).after in absurd (omega arith))))

-- the sides that the pass has noted after the first k positions
pub record AreNoted (cs : List Class) (k : ℕ) (sides : List Side) (outside : Side) : Type 0 where
  pub inside_is : (i : ℕ) → i < k → is_isolate_initiator (class_at cs i) ≡ true →
      get_or sides i Unknown ≡ side_before cs k (Some i)
  pub outside_is : outside ≡ side_before cs k None

pub noted_none : (cs : List Class) (sides : List Side) → AreNoted cs 0 sides Unknown
noted_none cs sides = record { inside_is = λ i h. absurd (omega arith); outside_is = refl }

weak_unchanged : (cs : List Class) (k : ℕ) (isolate : Option ℕ) → is_strong (class_at cs k) ≡ false →
    side_before cs (k + 1) isolate ≡ side_before cs k isolate
weak_unchanged cs k isolate weak = side_unchanged cs isolate k (and_left _ _ weak)

module _ {cs : List Class} {k : ℕ} {sides : List Side} {outside : Side} (now : AreNoted cs k sides outside) where
  -- a class that isn't strong, and begins no isolate
  pub noted_weak : is_strong (class_at cs k) ≡ false → is_isolate_initiator (class_at cs k) ≡ false →
      AreNoted cs (k + 1) sides outside
  noted_weak weak plain = record {
    inside_is = λ i h opener. elim (cases_eq i k) [
      | inl same ↦ absurd (true≢false (sym opener ∙ ap (λ q. is_isolate_initiator (class_at cs q)) same ∙ plain))
      | inr other ↦ now.inside_is i (omega arith) opener ∙ sym (weak_unchanged cs k (Some i) weak)
    ];
    outside_is = now.outside_is ∙ sym (weak_unchanged cs k None weak);
  }

  -- an initiator
  pub noted_opening : k < length sides → is_isolate_initiator (class_at cs k) ≡ true →
      AreNoted cs (k + 1) (set sides k Unknown) outside
  noted_opening room opener =
      let weak : is_strong (class_at cs k) ≡ false =
      false_from_ne_true _ (λ t. absurd (true≢false (sym opener ∙ (strong_is_other (class_at cs k) t).0))) in
      record {
        inside_is = λ i h o. elim (cases_eq i k) [
          | inl same ↦ rw same (get_or-set_same sides k Unknown Unknown room ∙ sym (side_unknown cs k))
          | inr other ↦ get_or-set_other sides k i Unknown Unknown other ∙ now.inside_is i (omega arith) o ∙
              sym (weak_unchanged cs k (Some i) weak)
        ];
        outside_is = now.outside_is ∙ sym (weak_unchanged cs k None weak);
      }

  strong_unchanged : (isolate : Option ℕ) → (isolate_around cs k ≡ isolate → ⊥) →
      side_before cs (k + 1) isolate ≡ side_before cs k isolate
  strong_unchanged isolate ne = side_unchanged cs isolate k (elsewhere cs isolate k ne)

  strong_here : (isolate : Option ℕ) → is_strong (class_at cs k) ≡ true → isolate_around cs k ≡ isolate →
      is_strong_in cs isolate k ≡ true
  strong_here isolate strong here = and_from _ _ strong (rw here (same_position_refl isolate))

  not_opener : (i : ℕ) → is_strong (class_at cs k) ≡ true → is_isolate_initiator (class_at cs i) ≡ true → i < k + 1 →
      i < k
  not_opener i strong opener h = grind (arith, true≢false, strong_is_other)

  -- a strong class outside of all isolates
  pub noted_outside : is_strong (class_at cs k) ≡ true → isolate_around cs k ≡ None →
      AreNoted cs (k + 1) sides (noted outside (class_at cs k))
  noted_outside strong here = grind (arith, not_opener, strong_unchanged, side_noted, strong_here)

  -- a strong class in the isolate that begins at q
  pub noted_inside : (q : ℕ) → q < k → q < length sides → is_isolate_initiator (class_at cs q) ≡ true →
      is_strong (class_at cs k) ≡ true → isolate_around cs k ≡ Some q →
      AreNoted cs (k + 1) (noted_at sides q (class_at cs k)) outside
  noted_inside q below room begins strong here =
      grind (arith, nat_tests, get_or-set_same, side_noted, strong_here, get_or-set_other, not_opener, strong_unchanged)

-- a strong class, in the last of the open isolates, or outside of all isolates if none is open
pub noted_strong : (cs : List Class) (k depth : ℕ) (s : ℕ →
    ℕ) (class : Class) (sides new : List Side) (outside found : Side) → AreNoted cs k sides outside → k < length cs →
    k ≤ length sides → IsOpenStack cs k depth s → class_at cs k ≡ class → is_strong (class_at cs k) ≡ true →
    (depth ≡ 0 → (found ≡ noted outside class) × (new ≡ sides)) →
    ((d : ℕ) → depth ≡ d + 1 → (found ≡ outside) × (new ≡ noted_at sides (s d) class)) →
    AreNoted cs (k + 1) new found
noted_strong cs k zero s class sides new outside found now inside room stack same strong none some =
    let e = none refl in
    rw (e.0, e.1, ← same) (noted_outside now strong (around_none_open cs k inside s stack))
noted_strong cs k (suc n) s class sides new outside found now inside room stack same strong none some =
    let one : suc n ≡ n + 1 = omega arith in
    let e = some n one in
    let plain = strong_is_other (class_at cs k) strong in
    let below = stack.before n (omega arith) in
    rw (e.0, e.1, ← same) (noted_inside now (s n) below (omega (arith, below)) (stack.opener n (omega arith)) strong
    (around_last_open cs k inside n s stack plain.0 plain.1))

-- and the number of sides is unchanged
pub sides_unchanged : (depth : ℕ) (s : ℕ → ℕ) (class : Class) (sides new : List Side) (outside found : Side) →
    (depth ≡ 0 → (found ≡ noted outside class) × (new ≡ sides)) →
    ((d : ℕ) → depth ≡ d + 1 → (found ≡ outside) × (new ≡ noted_at sides (s d) class)) → length new ≡ length sides
sides_unchanged zero s class sides new outside found none some = ap length (none refl).1
sides_unchanged (suc n) s class sides new outside found none some = let one : suc n ≡ n + 1 = omega arith in
    ap length (some n one).1 ∙ length-set sides (s n) _

-- no PDI is strong
pub pdi_is_weak : (c : Class) → is_pdi c ≡ true → is_strong c ≡ false
pdi_is_weak c h = false_from_ne_true _ (λ t. absurd (true≢false (sym h ∙ (strong_is_other c t).1)))

-- at the paragraph's end all sides are known
pub noted_all_inside : (cs : List Class) (sides : List Side) (outside : Side) → AreNoted cs (length cs) sides outside →
    HasSides sides cs
unfolding first_strong
noted_all_inside cs sides outside now = now.inside_is

pub noted_all_outside : (cs : List Class) (sides : List Side) (outside : Side) → AreNoted cs (length cs) sides outside →
    outside ≡ side_at cs (first_strong cs None)
unfolding first_strong
noted_all_outside cs sides outside now = now.outside_is

-- The kinds of classes that a set is tested for.
use Rattle.std.proofs.Common.{arith, ◌≡◌, Bool, true, false, List, [], ◌∷◌, refl, ◌∙◌}
use Rattle.std.specs.Prelude.{◌||◌, not}
use Rattle.std.specs.List.{list_all, list_any}
use Rattle.units.specs.Classes.{is_initiator, is_removed}
use Rattle.units.specs.declared.class.Class.{Class}
use Rattle.units.specs.declared.class.Class.TheVariants.{L, R, AL, EN, ES, ET, CS, AN, NSM, BN, LRE, LRO, RLE, RLO, PDF, LRI, RLI, FSI}
use Rattle.explicit.specs.Uniform.{may_rise_at_even, may_rise_at_odd}
use Rattle.resolve.specs.Wanted.{may_weaken}
use Rattle.paragraph.specs.ClassSets.{is_class}
use Rattle.paragraph.specs.LeftToRight.{may_leave}
use Rattle.paragraph.proofs.ClassSets.{any_of, tested_by}

-- tests that are joined from the left, and from the right
or_3 : (a b c : Bool) → ((a || b) || c) ≡ (a || (b || (c || false)))
or_3 true b c = refl
or_3 false true c = refl
or_3 false false true = refl
or_3 false false false = refl

or_6 : (a b c d e f : Bool) → (((((a || b) || c) || d) || e) || f) ≡ (a || (b || (c || (d || (e || (f || false))))))
or_6 true b c d e f = refl
or_6 false true c d e f = refl
or_6 false false true d e f = refl
or_6 false false false d e f = or_3 d e f

or_7 : (a b c d e f g : Bool) →
    ((((((a || b) || c) || d) || e) || f) || g) ≡ (a || (b || (c || (d || (e || (f || (g || false)))))))
or_7 true b c d e f g = refl
or_7 false b c d e f g = or_6 b c d e f g

-- a class is of the kind exactly if it is one of these
initiator_is : (c : Class) → is_initiator c ≡ any_of (LRE ∷ RLE ∷ LRO ∷ RLO ∷ LRI ∷ RLI ∷ FSI ∷ []) (c ∷ [])
initiator_is LRE = refl
initiator_is _ = refl

removed_is : (c : Class) → is_removed c ≡ any_of (LRE ∷ RLE ∷ LRO ∷ RLO ∷ PDF ∷ BN ∷ []) (c ∷ [])
removed_is LRE = refl
removed_is _ = refl

weak_is : (c : Class) → may_weaken c ≡ any_of (AL ∷ EN ∷ ES ∷ ET ∷ CS ∷ NSM ∷ []) (c ∷ [])
weak_is AL = refl
weak_is _ = refl

rising_at_even_is : (c : Class) → may_rise_at_even c ≡ any_of (R ∷ AL ∷ AN ∷ []) (c ∷ [])
rising_at_even_is R = refl
rising_at_even_is _ = refl

leaving_is : (c : Class) → may_leave c ≡ any_of (R ∷ AL ∷ AN ∷ RLE ∷ RLO ∷ RLI ∷ []) (c ∷ [])
leaving_is R = refl
leaving_is _ = refl

rising_at_odd_is : (c : Class) → may_rise_at_odd c ≡ any_of (L ∷ EN ∷ AN ∷ []) (c ∷ [])
rising_at_odd_is L = refl
rising_at_odd_is _ = refl

module _ (cs : List Class) where
  pub any_initiator : (a b c d e f g : Bool) → a ≡ list_any (is_class LRE) cs → b ≡ list_any (is_class RLE) cs →
      c ≡ list_any (is_class LRO) cs → d ≡ list_any (is_class RLO) cs →
      e ≡ list_any (is_class LRI) cs → f ≡ list_any (is_class RLI) cs → g ≡ list_any (is_class FSI) cs →
      ((((((a || b) || c) || d) || e) || f) || g) ≡ list_any is_initiator cs
  any_initiator a b c d e f g ha hb hc hd he hf hg =
      or_7 a b c d e f g ∙
      rw (
        ha,
        hb,
        hc,
        hd,
        he,
        hf,
        hg,
      ) (tested_by is_initiator (LRE ∷ RLE ∷ LRO ∷ RLO ∷ LRI ∷ RLI ∷ FSI ∷ []) initiator_is cs)

  pub any_removed : (a b c d e f : Bool) → a ≡ list_any (is_class LRE) cs → b ≡ list_any (is_class RLE) cs →
      c ≡ list_any (is_class LRO) cs → d ≡ list_any (is_class RLO) cs →
      e ≡ list_any (is_class PDF) cs → f ≡ list_any (is_class BN) cs →
      (((((a || b) || c) || d) || e) || f) ≡ list_any is_removed cs
  any_removed a b c d e f ha hb hc hd he hf =
      or_6 a b c d e f ∙ rw (
        ha,
        hb,
        hc,
        hd,
        he,
        hf,
      ) (tested_by is_removed (LRE ∷ RLE ∷ LRO ∷ RLO ∷ PDF ∷ BN ∷ []) removed_is cs)

  pub any_weak : (a b c d e f : Bool) → a ≡ list_any (is_class AL) cs → b ≡ list_any (is_class EN) cs →
      c ≡ list_any (is_class ES) cs → d ≡ list_any (is_class ET) cs →
      e ≡ list_any (is_class CS) cs → f ≡ list_any (is_class NSM) cs →
      (((((a || b) || c) || d) || e) || f) ≡ list_any may_weaken cs
  any_weak a b c d e f ha hb hc hd he hf =
      or_6 a b c d e f ∙ rw (
        ha,
        hb,
        hc,
        hd,
        he,
        hf,
      ) (tested_by may_weaken (AL ∷ EN ∷ ES ∷ ET ∷ CS ∷ NSM ∷ []) weak_is cs)

  pub any_rising_at_even : (a b c : Bool) → a ≡ list_any (is_class R) cs → b ≡ list_any (is_class AL) cs →
      c ≡ list_any (is_class AN) cs → ((a || b) || c) ≡ list_any may_rise_at_even cs
  any_rising_at_even a b c ha hb hc =
      or_3 a b c ∙ rw (ha, hb, hc) (tested_by may_rise_at_even (R ∷ AL ∷ AN ∷ []) rising_at_even_is cs)

  pub any_rising_at_odd : (a b c : Bool) → a ≡ list_any (is_class L) cs → b ≡ list_any (is_class EN) cs →
      c ≡ list_any (is_class AN) cs → ((a || b) || c) ≡ list_any may_rise_at_odd cs
  any_rising_at_odd a b c ha hb hc =
      or_3 a b c ∙ rw (ha, hb, hc) (tested_by may_rise_at_odd (L ∷ EN ∷ AN ∷ []) rising_at_odd_is cs)

  pub any_leaving : (a b c d e f : Bool) → a ≡ list_any (is_class R) cs → b ≡ list_any (is_class AL) cs →
      c ≡ list_any (is_class AN) cs → d ≡ list_any (is_class RLE) cs →
      e ≡ list_any (is_class RLO) cs → f ≡ list_any (is_class RLI) cs →
      (((((a || b) || c) || d) || e) || f) ≡ list_any may_leave cs
  any_leaving a b c d e f ha hb hc hd he hf =
      or_6 a b c d e f ∙ rw (
        ha,
        hb,
        hc,
        hd,
        he,
        hf,
      ) (tested_by may_leave (R ∷ AL ∷ AN ∷ RLE ∷ RLO ∷ RLI ∷ []) leaving_is cs)

-- not any class passes the test exactly if each class fails it
pub none_where_not_any : (test : Class → Bool) (cs : List Class) →
    not (list_any test cs) ≡ list_all (λ c. not (test c)) cs
none_where_not_any test [] = refl
none_where_not_any test (c ∷ cs) = grind (arith, none_where_not_any test cs)

-- A pass over a paragraph that counts its open isolates and notes the first strong class outside of them.
use Rattle.std.proofs.Common.{◌≡◌, ℕ, zero, suc, ◌+◌, ◌-◌, ◌<◌, ◌==◌, ◌&&◌, if◌then◌else◌, true, false, List, map, length, get_or, set, Option, None, inl, inr, refl, sym, ap, ◌∙◌, arith}
use Rattle.std.proofs.lemmas.Bool.{cases_Bool, eqb-true, true≢false, false_from_ne_true}
use Rattle.std.proofs.lemmas.List.{length-map, length-set}
use Rattle.units.specs.Classes.{class_at, is_isolate_initiator, is_pdi, is_strong}
use Rattle.units.specs.Isolates.{first_strong}
use Rattle.units.specs.declared.class.Class.{Class}
use Rattle.explicit.specs.Sides.{noted, noted_at, side_at}
use Rattle.explicit.specs.declared.side.Side.{Side}
use Rattle.explicit.specs.declared.side.Side.TheVariants.{Unknown}
use Rattle.explicit.proofs.Matched.Filling.{IsFilling, filling_matched, filling_none, filling_opening, filling_other, filling_unmatched}
use Rattle.explicit.proofs.StrongSides.Sides.{AreNoted, noted_all_outside, noted_none, noted_opening, noted_strong, noted_weak, pdi_is_weak, strong_is_other}
use Rattle.room.specs.BaseLevels.{depth_after}

-- P2: the side that is known after a class: a strong class is noted if no isolate is open
abbrev pub side_after : Class → ℕ → Side → Side
side_after class depth side = if (depth == 0) && is_strong class then noted side class else side

-- after the first k classes `depth` isolates are open, and `side` is the known side
pub record HasPassed (cs : List Class) (k depth : ℕ) (side : Side) : Type 0 where
  pub partners : List (Option ℕ)
  pub openers : List ℕ
  pub sides : List Side
  pub filling : IsFilling cs k depth (length cs) partners openers
  pub sides_fit : length sides ≡ length cs
  pub noted_so : AreNoted cs k sides side

pub passed_none : (cs : List Class) → HasPassed cs 0 0 Unknown
passed_none cs = record {
  partners = map (λ c. None) cs;
  openers = map (λ c. 0) cs;
  sides = map (λ c. Unknown) cs;
  filling = filling_none cs (length cs) _ _ (omega arith) (length-map _ _) (length-map _ _);
  sides_fit = length-map _ _;
  noted_so = noted_none cs _;
}

module _ {cs : List Class} {k depth : ℕ} {side : Side} (passed : HasPassed cs k depth side)
    (inside : k < length cs) where
  opening : is_isolate_initiator (class_at cs k) ≡ true → HasPassed cs (k + 1) (depth + 1) side
  opening o =
      let fit = passed.sides_fit in
      record {
        partners = set passed.partners k None;
        openers = set passed.openers depth k;
        sides = set passed.sides k Unknown;
        filling = filling_opening _ _ _ _ _ _ passed.filling inside o;
        sides_fit = length-set passed.sides k Unknown ∙ fit;
        noted_so = noted_opening passed.noted_so (omega arith) o;
      }

  closing : (n : ℕ) → depth ≡ suc n → is_isolate_initiator (class_at cs k) ≡ false → is_pdi (class_at cs k) ≡ true →
      HasPassed cs (k + 1) n side
  closing n one_more o e = record {
    partners = _;
    openers = passed.openers;
    sides = passed.sides;
    filling = filling_matched cs k depth n (get_or passed.openers n 0) (length cs) passed.partners passed.openers
        passed.filling inside one_more e refl;
    sides_fit = passed.sides_fit;
    noted_so = noted_weak passed.noted_so (pdi_is_weak _ e) o;
  }

  closing_none : depth ≡ 0 → is_isolate_initiator (class_at cs k) ≡ false → is_pdi (class_at cs k) ≡ true →
      HasPassed cs (k + 1) depth side
  closing_none empty o e = record {
    partners = set passed.partners k None;
    openers = passed.openers;
    sides = passed.sides;
    filling = filling_unmatched _ _ _ _ _ _ passed.filling inside empty e;
    sides_fit = passed.sides_fit;
    noted_so = noted_weak passed.noted_so (pdi_is_weak _ e) o;
  }

  weak : is_isolate_initiator (class_at cs k) ≡ false → is_pdi (class_at cs k) ≡ false →
      is_strong (class_at cs k) ≡ false → HasPassed cs (k + 1) depth side
  weak o e w = record {
    partners = set passed.partners k None;
    openers = passed.openers;
    sides = passed.sides;
    filling = filling_other _ _ _ _ _ _ passed.filling inside o e;
    sides_fit = passed.sides_fit;
    noted_so = noted_weak passed.noted_so w o;
  }

  strong_inside : (n : ℕ) → depth ≡ suc n → is_strong (class_at cs k) ≡ true → HasPassed cs (k + 1) depth side
  strong_inside n one_more strong =
      let plain = strong_is_other (class_at cs k) strong in
      let fit = passed.sides_fit in
      record {
        partners = set passed.partners k None;
        openers = passed.openers;
        sides = noted_at passed.sides (get_or passed.openers n 0) (class_at cs k);
        filling = filling_other _ _ _ _ _ _ passed.filling inside plain.0 plain.1;
        sides_fit = length-set passed.sides _ _ ∙ fit;
        noted_so = noted_strong cs k depth (λ a. get_or passed.openers a 0) (class_at cs k) passed.sides
            (noted_at passed.sides (get_or passed.openers n 0) (class_at cs k)) side side passed.noted_so inside
            (omega arith)
            passed.filling.pass.stack refl strong
            (λ none. absurd (omega (arith, none, one_more)))
            (λ d e. (
              refl,
              ap (λ m. noted_at passed.sides (get_or passed.openers m 0) (class_at cs k)) (omega (
                arith,
                e,
                one_more,
              )),
            ));
      }

  strong_outside : depth ≡ 0 → is_strong (class_at cs k) ≡ true →
      HasPassed cs (k + 1) depth (noted side (class_at cs k))
  strong_outside empty strong =
      let plain = strong_is_other (class_at cs k) strong in
      let fit = passed.sides_fit in
      record {
        partners = set passed.partners k None;
        openers = passed.openers;
        sides = passed.sides;
        filling = filling_other _ _ _ _ _ _ passed.filling inside plain.0 plain.1;
        sides_fit = fit;
        noted_so = noted_strong cs k depth (λ a. get_or passed.openers a 0)
            (class_at cs k) passed.sides passed.sides side
            (noted side (class_at cs k)) passed.noted_so inside (omega arith) passed.filling.pass.stack refl strong
            (λ none. (refl, refl))
            (λ d e. absurd (omega (arith, e, empty)));
      }

some_open : (n : ℕ) → (suc n == 0) ≡ false
some_open n = false_from_ne_true _ (λ t. absurd (omega (arith, eqb-true (suc n) 0 t)))

-- one class more
module _ (cs : List Class) (k : ℕ) (side : Side) (inside : k < length cs) where
  strong_more : (depth : ℕ) → HasPassed cs k depth side → is_isolate_initiator (class_at cs k) ≡ false →
      is_pdi (class_at cs k) ≡ false
      → is_strong (class_at cs k) ≡ true → HasPassed cs (k + 1) depth (side_after (class_at cs k) depth side)
  strong_more zero passed o e strong = rw strong (strong_outside passed inside refl strong)
  strong_more (suc n) passed o e strong = rw (some_open n) (strong_inside passed inside n refl strong)

  weak_side : (depth : ℕ) → is_strong (class_at cs k) ≡ false → side_after (class_at cs k) depth side ≡ side
  weak_side zero w = rw w refl
  weak_side (suc n) w = rw (some_open n) refl

  closing_more : (depth : ℕ) → HasPassed cs k depth side → is_isolate_initiator (class_at cs k) ≡ false →
      is_pdi (class_at cs k) ≡ true
      → HasPassed cs (k + 1) (depth - 1) side
  closing_more zero passed o e = closing_none passed inside refl o e
  closing_more (suc n) passed o e = let one_less : suc n - 1 ≡ n = omega arith in
      rw one_less (closing passed inside n refl o e)

  depth_other : (depth : ℕ) → is_isolate_initiator (class_at cs k) ≡ false → is_pdi (class_at cs k) ≡ false →
      depth_after (class_at cs k) depth ≡ depth
  depth_other depth o e = rw (o, e) refl

  opener_is_weak : is_isolate_initiator (class_at cs k) ≡ true → is_strong (class_at cs k) ≡ false
  opener_is_weak o = false_from_ne_true _ (λ t. absurd (true≢false (sym o ∙ (strong_is_other (class_at cs k) t).0)))

  other_more : (depth : ℕ) → HasPassed cs k depth side → is_isolate_initiator (class_at cs k) ≡ false →
      is_pdi (class_at cs k) ≡ false
      → HasPassed cs (k + 1) depth (side_after (class_at cs k) depth side)
  other_more depth passed o e = elim (cases_Bool (is_strong (class_at cs k))) [
    | inl strong ↦ strong_more depth passed o e strong
    | inr w ↦ rw (weak_side depth w) (weak passed inside o e w)
  ]

  pub passed_more : (depth : ℕ) → HasPassed cs k depth side →
      HasPassed cs (k + 1) (depth_after (class_at cs k) depth) (side_after (class_at cs k) depth side)
  passed_more depth passed = elim (cases_Bool (is_isolate_initiator (class_at cs k))) [
    | inl o ↦ rw (weak_side depth (opener_is_weak o), o) (opening passed inside o)
    | inr o ↦ elim (cases_Bool (is_pdi (class_at cs k))) [
      | inl e ↦ rw (weak_side depth (pdi_is_weak _ e), o, e) (closing_more depth passed o e)
      | inr e ↦ rw (depth_other depth o e) (other_more depth passed o e)
    ]
  ]

-- at the paragraph's end the side is that of the first strong class
pub passed_all : (cs : List Class) (depth : ℕ) (side : Side) → HasPassed cs (length cs) depth side →
    side ≡ side_at cs (first_strong cs None)
passed_all cs depth side passed = noted_all_outside cs passed.sides side passed.noted_so

-- Worked rows of weak types (W1 to W7).
use Rattle.std.specs.Prelude.{◌≡◌, [], ◌∷◌, Some, map, refl}
use Rattle.units.specs.Weak.{after_w5, after_weak}
use Rattle.units.specs.RowWords.{plain, laid_out, layouts_compute}
use Rattle.units.specs.declared.class.Class.TheVariants.{L, R, AL, EN, ES, ET, AN, CS, NSM, ON}
use Rattle.units.specs.declared.level.Direction.TheVariants.{Ltr}

-- EN after L becomes L, the separator between them too; AN stays
pub numbers_after_l : after_weak L (NSM ∷ EN ∷ ES ∷ EN ∷ ET ∷ CS ∷ AN ∷ [])
    ≡ L ∷ L ∷ L ∷ L ∷ L ∷ ON ∷ AN ∷ []
unfolding after_weak
numbers_after_l = refl

-- a mark takes the class before it, a run of ET that of the EN before it
pub numbers_after_r : after_weak L (R ∷ EN ∷ CS ∷ EN ∷ ET ∷ ET ∷ NSM ∷ [])
    ≡ R ∷ EN ∷ EN ∷ EN ∷ EN ∷ EN ∷ EN ∷ []
unfolding after_weak
numbers_after_r = refl

-- EN after AL becomes AN
pub numbers_after_al : after_weak L (AL ∷ EN ∷ CS ∷ EN ∷ [])
    ≡ R ∷ AN ∷ AN ∷ AN ∷ []
unfolding after_weak
numbers_after_al = refl

-- a run of ET next to an EN becomes EN, on either side; one that is not stays
pub terminators_by_number : after_w5 (ET ∷ ET ∷ EN ∷ ET ∷ ON ∷ ET ∷ ET ∷ ET ∷ EN ∷ R ∷ ET ∷ AN ∷ [])
    ≡ EN ∷ EN ∷ EN ∷ EN ∷ ON ∷ EN ∷ EN ∷ EN ∷ EN ∷ R ∷ ET ∷ AN ∷ []
unfolding after_weak
terminators_by_number = refl

-- ET beside no EN becomes ON, also ET beside a number after AL
pub terminators_alone : after_weak R (ET ∷ AL ∷ EN ∷ ET ∷ [])
    ≡ ON ∷ R ∷ AN ∷ ON ∷ []
unfolding after_weak
terminators_alone = refl

-- a number without a strong class before it takes sos
pub number_alone : (laid_out (map plain (EN ∷ [])) Ltr).0
    ≡ Some 0 ∷ []
unfolding layouts_compute
number_alone = refl

-- numbers inside R, with a separator between them
pub numbers_in_right_to_left : laid_out (map plain (R ∷ EN ∷ CS ∷ EN ∷ [])) Ltr
    ≡ (Some 1 ∷ Some 2 ∷ Some 2 ∷ Some 2 ∷ [], 1 ∷ 2 ∷ 3 ∷ 0 ∷ [])
unfolding layouts_compute
numbers_in_right_to_left = refl

-- EN after AL becomes AN
pub arabic_number : laid_out (map plain (AL ∷ EN ∷ [])) Ltr
    ≡ (Some 1 ∷ Some 2 ∷ [], 1 ∷ 0 ∷ [])
unfolding layouts_compute
arabic_number = refl

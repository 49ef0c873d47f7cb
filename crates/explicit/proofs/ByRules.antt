-- The classes that a sequence without risers has after each rule (W1 to N0): one direction, and neutrals.
use Rattle.std.proofs.Common.{◌≡◌, Bool, true, false, cond, refl}
use Rattle.std.specs.Prelude.{not, ◌&&◌, if◌then◌else◌}
use Rattle.units.specs.Classes.{is_strong, is_base, is_neutral, is_removed}
use Rattle.units.specs.Weak.{taken_by_mark, by_w1, by_w2, by_w3, by_w4, by_w5, by_w6, by_w7}
use Rattle.units.specs.Brackets.{strong_as, same_direction, opposite}
use Rattle.units.specs.Neutral.{by_sides}
use Rattle.units.specs.declared.class.Class.{Class}
use Rattle.units.specs.declared.class.Class.TheVariants.{L, R, AL, EN, ES, ET, AN, CS, NSM, ON, LRI, RLI, FSI, PDI}
use Rattle.explicit.specs.Flat.{is_remaining}
use Rattle.explicit.specs.Uniform.{may_rise_at_even, may_rise_at_odd}

-- the direction of an even level, and of an odd one
abbrev pub direction : Bool → Class
direction even = cond even L R

-- the classes before W1 that X9 doesn't remove and that can't rise
abbrev pub own_stays : Bool → Class → Bool
own_stays true c = is_remaining c && not (may_rise_at_even c)
own_stays false c = is_remaining c && not (may_rise_at_odd c)

-- after W1 and W2: there is no mark
abbrev pub marked_stays : Bool → Class → Bool
marked_stays even NSM = false
marked_stays even c = own_stays even c

-- after W3 to W5: there is no AL
abbrev pub lettered_stays : Bool → Class → Bool
lettered_stays even AL = false
lettered_stays even c = marked_stays even c

-- after W6: there are no ES, ET and CS
abbrev pub separated_stays : Bool → Class → Bool
separated_stays even ES = false
separated_stays even ET = false
separated_stays even CS = false
separated_stays even c = lettered_stays even c

-- after W7 and N0: the direction, and neutrals
abbrev pub resolved_stays : Bool → Class → Bool
resolved_stays even EN = false
resolved_stays even c = separated_stays even c

pub own_from : (even : Bool) (c : Class) → is_remaining c ≡ true →
    cond even (may_rise_at_even c) (may_rise_at_odd c) ≡ false → own_stays even c ≡ true
own_from true c retained low = rw (retained, low) refl
own_from false c retained low = rw (retained, low) refl

pub own_is : (even : Bool) (c : Class) →
    own_stays even c ≡ (not (is_removed c) && not (if even then may_rise_at_even c else may_rise_at_odd c))
own_is true c = refl
own_is false c = refl

taken_stays : (even : Bool) (c : Class) → own_stays even c ≡ true → is_base c ≡ true →
    marked_stays even (taken_by_mark c) ≡ true
taken_stays true LRI h base = refl
taken_stays true RLI h base = refl
taken_stays true FSI h base = refl
taken_stays true PDI h base = refl
taken_stays false LRI h base = refl
taken_stays false RLI h base = refl
taken_stays false FSI h base = refl
taken_stays false PDI h base = refl
taken_stays even NSM h base = absurd (cc)
taken_stays even _ h base = h

pub w1_stays : (even : Bool) (before c : Class) → own_stays even before ≡ true → is_base before ≡ true →
    own_stays even c ≡ true → marked_stays even (by_w1 before c) ≡ true
w1_stays even before NSM p base q = taken_stays even before p base
w1_stays even before _ p base q = q

pub w2_same : (even : Bool) (strong c : Class) → marked_stays even strong ≡ true → marked_stays even c ≡ true →
    by_w2 strong c ≡ c
w2_same true AL EN p q = absurd (cc)
w2_same false AL EN p q = absurd (cc)
w2_same even AL _ p q = refl
w2_same even _ c p q = refl

pub w3_stays : (even : Bool) (c : Class) → marked_stays even c ≡ true → lettered_stays even (by_w3 c) ≡ true
w3_stays true AL q = absurd (cc)
w3_stays false AL q = refl
w3_stays even _ q = q

pub w4_stays : (even : Bool) (before c after : Class) → lettered_stays even before ≡ true →
    lettered_stays even c ≡ true → lettered_stays even (by_w4 before c after) ≡ true
w4_stays true EN ES EN p q = refl
w4_stays true EN CS EN p q = refl
w4_stays false EN ES EN p q = absurd (cc)
w4_stays false EN CS EN p q = absurd (cc)
w4_stays true AN CS AN p q = absurd (cc)
w4_stays false AN CS AN p q = absurd (cc)
w4_stays even EN ES after p q = q
w4_stays even EN CS after p q = q
w4_stays even AN CS after p q = q
w4_stays even EN c after p q = q
w4_stays even AN c after p q = q
w4_stays even before c after p q = q

pub w5_stays : (even : Bool) (before after : Class) → lettered_stays even before ≡ true →
    lettered_stays even after ≡ true → lettered_stays even (by_w5 before after) ≡ true
w5_stays true EN after p q = refl
w5_stays false EN after p q = absurd (cc)
w5_stays true before EN p q = refl
w5_stays false before EN p q = absurd (cc)
w5_stays true before after p q = refl
w5_stays false before after p q = refl

pub w6_stays : (even : Bool) (c : Class) → lettered_stays even c ≡ true → separated_stays even (by_w6 c) ≡ true
w6_stays true ES q = refl
w6_stays true ET q = refl
w6_stays true CS q = refl
w6_stays false ES q = refl
w6_stays false ET q = refl
w6_stays false CS q = refl
w6_stays even _ q = q

strong_is : (even : Bool) (c : Class) → separated_stays even c ≡ true → is_strong c ≡ true → c ≡ direction even
strong_is true L p t = refl
strong_is false R p t = refl
strong_is true _ p t = absurd (cc)
strong_is false _ p t = absurd (cc)

w7_after : (even : Bool) (c : Class) → separated_stays even c ≡ true →
    resolved_stays even (by_w7 (direction even) c) ≡ true
w7_after true EN q = refl
w7_after false EN q = absurd (cc)
w7_after true _ q = q
w7_after false _ q = q

pub w7_stays : (even : Bool) (strong c : Class) → separated_stays even strong ≡ true → is_strong strong ≡ true →
    separated_stays even c ≡ true → resolved_stays even (by_w7 strong c) ≡ true
w7_stays even strong c p t q = rw (strong_is even strong p t) (w7_after even c q)

pub not_opposite : (even : Bool) (c : Class) → resolved_stays even c ≡ true →
    same_direction (opposite (direction even)) (strong_as c) ≡ false
not_opposite true L q = refl
not_opposite true R q = absurd (cc)
not_opposite true EN q = absurd (cc)
not_opposite true AN q = absurd (cc)
not_opposite true _ q = refl
not_opposite false L q = absurd (cc)
not_opposite false R q = refl
not_opposite false EN q = absurd (cc)
not_opposite false AN q = absurd (cc)
not_opposite false _ q = refl

pub not_neutral : (even : Bool) (c : Class) → resolved_stays even c ≡ true → is_neutral c ≡ false → c ≡ direction even
not_neutral true L q n = refl
not_neutral false R q n = refl
not_neutral true _ q n = absurd (cc)
not_neutral false _ q n = absurd (cc)

pub after_direction : (even : Bool) (after : Class) →
    by_sides (direction even) (direction even) after ≡ direction even
after_direction true L = refl
after_direction true _ = refl
after_direction false L = refl
after_direction false _ = refl

-- the direction itself fulfils the condition at each rule
pub record DirectionStays (even : Bool) : Type 0 where
  pub own : own_stays even (direction even) ≡ true
  pub base : is_base (direction even) ≡ true
  pub strong : is_strong (direction even) ≡ true
  pub marked : marked_stays even (direction even) ≡ true
  pub separated : separated_stays even (direction even) ≡ true
  pub decided : resolved_stays even (direction even) ≡ true
  pub neutral : is_neutral (direction even) ≡ false
  pub outside : lettered_stays even ON ≡ true

pub direction_stays : (even : Bool) → DirectionStays even
direction_stays true = record {
  own = refl;
  base = refl;
  strong = refl;
  marked = refl;
  separated = refl;
  decided = refl;
  neutral = refl;
  outside = refl;
}
direction_stays false = record {
  own = refl;
  base = refl;
  strong = refl;
  marked = refl;
  separated = refl;
  decided =
      refl;
  neutral = refl;
  outside = refl;
}

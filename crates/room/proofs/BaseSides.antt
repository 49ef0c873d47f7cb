-- The side of the first strong class of a text's first paragraph, as a pass finds it that ends there.
use Rattle.std.proofs.Common.{◌≡◌, ℕ, zero, suc, ◌+◌, ◌<◌, ◌==◌, ◌&&◌, if◌then◌else◌, true, false, List, length, None, [], ◌∷◌, inl, inr, refl, sym, ap, ◌∙◌, arith, take, drop}
use Rattle.std.proofs.lemmas.Bool.{cases_Bool}
use Rattle.std.proofs.lemmas.List.{drop_all, drop_more}
use Rattle.units.specs.Classes.{class_at, classes_of, is_right_to_left, is_separator, is_strong}
use Rattle.units.specs.Isolates.{first_strong}
use Rattle.units.specs.declared.bracket.Unit.{Unit as BidiUnit}
use Rattle.units.specs.declared.class.Class.{Class}
use Rattle.units.specs.declared.class.Class.TheVariants.{B, L}
use Rattle.explicit.specs.FirstParagraph.{first_length}
use Rattle.explicit.specs.Sides.{noted, side_at, strong_side}
use Rattle.explicit.specs.declared.side.Side.{Side}
use Rattle.explicit.specs.declared.side.Side.TheVariants.{Unknown}
use Rattle.room.specs.BaseLevels.{depth_after, first_side}
use Rattle.room.proofs.BasePass.{HasPassed, side_after, passed_all, passed_more, passed_none}

-- how many units the first paragraph has, depending on its first unit
pub one_longer : (unit : BidiUnit) (units : List BidiUnit) →
    first_length (unit ∷ units) ≡ (if is_separator unit.class then 1 else suc (first_length units))
one_longer unit units = refl

-- the side of the first strong class outside of isolates, up to a separator, if `depth` isolates are open before
abbrev pub side_from : List BidiUnit → ℕ → Side
side_from [] depth = Unknown
side_from (unit ∷ units) depth =
    if is_separator unit.class then Unknown
    else (if (depth == 0) && is_strong unit.class then strong_side unit.class
    else side_from units (depth_after unit.class depth))

-- the side that is known after all of these classes
abbrev side_after_all : List Class → ℕ → Side → Side
side_after_all [] depth side = side
side_after_all (class ∷ cs) depth side = side_after_all cs (depth_after class depth) (side_after class depth side)

-- a pass over the remaining classes gives the side of the first strong class
others_passed : (cs : List Class) (n k depth : ℕ) (side : Side) → k + n ≡ length cs → HasPassed cs k depth side
    → side_after_all (drop k cs) depth side ≡ side_at cs (first_strong cs None)
others_passed cs zero k depth side all passed =
    let none : drop k cs ≡ [] = drop_all k cs (omega arith) in
    let whole : k ≡ length cs = omega arith in
    rw none (passed_all cs depth side (rw whole at passed))
others_passed cs (suc n) k depth side all passed =
    let inside : k < length cs = omega arith in
    let next : drop k cs ≡ class_at cs k ∷ drop (k + 1) cs = drop_more cs k L inside in
    rw next (others_passed cs n (k + 1) _ _ (omega arith) (passed_more cs k side inside depth passed))

-- a known side doesn't change
noted_stays : (first class : Class) → noted (strong_side first) class ≡ strong_side first
noted_stays first class = elim (cases_Bool (is_right_to_left first)) [ inl t ↦ rw t refl | inr f ↦ rw f refl ]

side_stays : (class first : Class) (depth : ℕ) → side_after class depth (strong_side first) ≡ strong_side first
side_stays class first depth = elim (cases_Bool ((depth == 0) && is_strong class)) [
  | inl here ↦ rw here (noted_stays first class)
  | inr other ↦ rw other refl
]

all_stay : (cs : List Class) (first : Class) (depth : ℕ) →
    side_after_all cs depth (strong_side first) ≡ strong_side first
all_stay [] first depth = refl
all_stay (class ∷ cs) first depth = rw (side_stays class first depth) (all_stay cs first (depth_after class depth))

-- a separator is not strong
nothing_noted : (class : Class) (depth : ℕ) → is_separator class ≡ true → side_after class depth Unknown ≡ Unknown
nothing_noted B depth ends = elim (cases_Bool (depth == 0)) [ inl none ↦ rw none refl | inr some ↦ rw some refl ]
nothing_noted class depth ends = absurd (cc)

-- a pass over the whole first paragraph gives the same side as one that ends early
first_class : (unit : BidiUnit) (units : List BidiUnit) (depth : ℕ) → is_separator unit.class ≡ false
    → side_after_all (classes_of (take (first_length (unit ∷ units)) (unit ∷ units))) depth Unknown
    ≡ side_after_all (classes_of (take (first_length units) units)) (depth_after unit.class depth)
    (side_after unit.class depth Unknown)
first_class unit units depth inside = rw inside refl

first_passed : (units : List BidiUnit) (depth : ℕ) →
    side_after_all (classes_of (take (first_length units) units)) depth Unknown ≡ side_from units depth
first_passed [] depth = refl
first_passed (unit ∷ units) depth =
    let cs : List Class = classes_of (take (first_length units) units) in
    let following : ℕ = depth_after unit.class depth in
    elim (cases_Bool (is_separator unit.class)) [
      | inl ends ↦ rw ends (nothing_noted unit.class depth ends)
      | inr inside ↦ elim (cases_Bool ((depth == 0) && is_strong unit.class)) [
        | inl strong ↦
            let here : side_after unit.class depth Unknown ≡ strong_side unit.class = rw strong refl in
            let found : side_from (unit ∷ units) depth ≡ strong_side unit.class = rw (inside, strong) refl in
            first_class unit units depth inside ∙ ap (side_after_all cs following) here ∙
            all_stay cs unit.class following ∙ sym found
        | inr other ↦
            let here : side_after unit.class depth Unknown ≡ Unknown = rw other refl in
            let found : side_from (unit ∷ units) depth ≡ side_from units following = rw (inside, other) refl in
            first_class unit units depth inside ∙ ap (side_after_all cs following) here ∙ first_passed units following ∙
            sym found
      ]
    ]

-- that pass gives the first side
pub first_side_from : (units : List BidiUnit) → first_side units ≡ side_from units 0
first_side_from units =
    let cs : List Class = classes_of (take (first_length units) units) in
    sym (sym (first_passed units 0) ∙ others_passed cs (length cs) 0 0 Unknown (omega arith) (passed_none cs))

-- How many units of a text's first paragraph a pass reads that ends at the first strong class outside of isolates.
use Rattle.std.proofs.Common.{◌≡◌, ℕ, zero, suc, ◌+◌, ◌<◌, ◌==◌, ◌&&◌, cond, if◌then◌else◌, true, List, Option, Some, None, length, [], ◌∷◌, inl, inr, refl, sym, ap, ◌∙◌, arith, take, drop}
use Rattle.std.proofs.lemmas.Bool.{cases_Bool}
use Rattle.std.proofs.lemmas.List.{drop_all, drop_more, length-map, length-take-le}
use Rattle.units.specs.Classes.{class_at, classes_of, is_right_to_left, is_separator, is_strong}
use Rattle.units.specs.Isolates.{first_strong}
use Rattle.units.specs.Positions.{first_from}
use Rattle.units.specs.declared.bracket.Unit.{Unit as BidiUnit}
use Rattle.units.specs.declared.class.Class.{Class}
use Rattle.units.specs.declared.class.Class.TheVariants.{L}
use Rattle.units.proofs.Positions.{first_from_is, first_from_more, first_from_none, or_else}
use Rattle.explicit.proofs.LevelsComputed.OneCutting.{first_length_within}
use Rattle.explicit.proofs.StrongSides.StrongInside.{is_strong_in}
use Rattle.explicit.specs.FirstParagraph.{first_length}
use Rattle.explicit.specs.Sides.{side_at, strong_side}
use Rattle.explicit.specs.declared.side.Side.TheVariants.{Unknown}
use Rattle.room.specs.BaseLevels.{depth_after, first_paragraph, through, units_read}
use Rattle.room.proofs.BasePass.{HasPassed, passed_more, passed_none, side_after}

-- how many units are read, if `depth` isolates are open before
abbrev pub read_from : List BidiUnit → ℕ → ℕ
read_from [] depth = 0
read_from (unit ∷ units) depth =
    if is_separator unit.class then 1
    else (if (depth == 0) && is_strong unit.class then 1
    else suc (read_from units (depth_after unit.class depth)))

-- the same of the classes of a paragraph
abbrev read_of : List Class → ℕ → ℕ
read_of [] depth = 0
read_of (class ∷ cs) depth =
    if (depth == 0) && is_strong class then 1 else suc (read_of cs (depth_after class depth))

-- a strong class has a side
no_side : (c : Class) → Unknown ≡ strong_side c → ⊥
no_side c e = elim (cases_Bool (is_right_to_left c)) [ inl t ↦ absurd (cc) | inr f ↦ absurd (cc) ]

no_position : (cs : List Class) (found : Option ℕ) → Unknown ≡ side_at cs found → found ≡ None
no_position cs None e = refl
no_position cs (Some p) e = absurd (no_side (class_at cs p) e)

-- no side is known if and only if no strong class outside of isolates was passed
none_before : (cs : List Class) (k depth : ℕ) → HasPassed cs k depth Unknown →
    first_from (is_strong_in cs None) 0 k ≡ None
none_before cs k depth passed = no_position cs (first_from (is_strong_in cs None) 0 k) passed.noted_so.outside_is

none_at_all : (cs : List Class) (depth : ℕ) → HasPassed cs (length cs) depth Unknown → first_strong cs None ≡ None
unfolding first_strong
none_at_all cs depth passed = none_before cs (length cs) depth passed

one_more : (cs : List Class) (k : ℕ) →
    first_from (is_strong_in cs None) 0 (k + 1) ≡ or_else (first_from (is_strong_in cs None) 0 k)
    (cond (is_strong_in cs None k) (Some k) None)
one_more cs k = grind (arith, first_from_more)

-- a class whose side becomes known passes the test
passes : (cs : List Class) (k : ℕ) (c : Class) (found : Option ℕ) → found ≡ None →
    strong_side c ≡ side_at cs (or_else found (cond (is_strong_in cs None k) (Some k) None)) →
    is_strong_in cs None k ≡ true
passes cs k c found none known = elim (cases_Bool (is_strong_in cs None k)) [
  | inl holds ↦ holds
  | inr fails ↦ absurd (no_side c (sym (rw (none, fails) at known)))
]

-- the first strong class outside of isolates is where the pass finds it
first_there : (cs : List Class) (k depth : ℕ) → k < length cs → HasPassed cs k depth Unknown →
    ((depth == 0) && is_strong (class_at cs k)) ≡ true → first_strong cs None ≡ Some k
unfolding first_strong
first_there cs k depth inside passed strong =
    let before = none_before cs k depth passed in
    let known : strong_side (class_at cs k) ≡ side_after (class_at cs k) depth Unknown = rw strong refl in
    let after = (passed_more cs k Unknown inside depth passed).noted_so.outside_is in
    let here : is_strong_in cs None k ≡ true =
    passes cs k (class_at cs k) (first_from (is_strong_in cs None) 0 k) before
    (known ∙ after ∙ ap (side_at cs) (one_more cs k)) in
    first_from_is (is_strong_in cs None) 0 (length cs) k (omega arith) (omega (arith, inside)) here
    (λ q from below. first_from_none (is_strong_in cs None) 0 k before q from (omega (arith, below)))

-- a pass over the remaining classes reads up to that class, or all
others_read : (cs : List Class) (n k depth : ℕ) → k + n ≡ length cs → HasPassed cs k depth Unknown →
    k + read_of (drop k cs) depth ≡ through (first_strong cs None) (length cs)
others_read cs zero k depth all passed =
    let none : drop k cs ≡ [] = drop_all k cs (omega arith) in
    let whole : k ≡ length cs = omega arith in
    rw (none, none_at_all cs depth (rw whole at passed)) (omega (arith, whole))
others_read cs (suc n) k depth all passed =
    let inside : k < length cs = omega arith in
    let next : drop k cs ≡ class_at cs k ∷ drop (k + 1) cs = drop_more cs k L inside in
    elim (cases_Bool ((depth == 0) && is_strong (class_at cs k))) [
      | inl strong ↦ rw (next, strong, first_there cs k depth inside passed strong) refl
      | inr other ↦
          let unknown : side_after (class_at cs k) depth Unknown ≡ Unknown = rw other refl in
          let following : HasPassed cs (k + 1) (depth_after (class_at cs k) depth) Unknown =
          rw unknown at (passed_more cs k Unknown inside depth passed) in
          let rest = others_read cs n (k + 1) (depth_after (class_at cs k) depth) (omega arith) following in
          rw (next, other) (omega (arith, rest))
    ]

-- a separator is the last unit of its paragraph
first_read : (units : List BidiUnit) (depth : ℕ) →
    read_of (classes_of (take (first_length units) units)) depth ≡ read_from units depth
first_read [] depth = refl
first_read (unit ∷ units) depth = elim (cases_Bool (is_separator unit.class)) [
  | inl ends ↦ elim (cases_Bool ((depth == 0) && is_strong unit.class)) [
    | inl strong ↦ rw (ends, strong) refl
    | inr other ↦ rw (ends, other) refl
  ]
  | inr inside ↦ elim (cases_Bool ((depth == 0) && is_strong unit.class)) [
    | inl strong ↦ rw (inside, strong) refl
    | inr other ↦ rw (inside, other) (ap suc (first_read units (depth_after unit.class depth)))
  ]
]

-- the units that are read are those that show the side
pub units_read_from : (units : List BidiUnit) → units_read units ≡ read_from units 0
units_read_from units =
    let cs : List Class = classes_of (first_paragraph units) in
    let all : length cs ≡ first_length units = length-map (first_paragraph units) (λ (u : BidiUnit). u.class) ∙
    length-take-le (first_length units) units (first_length_within units) in
    let read : 0 + read_of cs 0 ≡ through (first_strong cs None) (length cs) =
    others_read cs (length cs) 0 0 (omega arith) (passed_none cs) in
    let begun : read_of cs 0 ≡ 0 + read_of cs 0 = omega arith in
    ap (through (first_strong cs None)) (sym all) ∙ sym (begun ∙ read) ∙ first_read units 0

-- P1, P2: what the set of the classes of a text shows: that the text is one paragraph, and the side of the first strong
-- class.
use Rattle.std.proofs.Common.{◌≡◌, true, false, Bool, List, [], ◌∷◌, suc, length, refl, ap, sym}
use Rattle.std.proofs.lemmas.Bool.{false≢true}
use Rattle.std.specs.Prelude.{◌||◌, find, if◌then◌else◌}
use Rattle.std.specs.List.{list_any}
use Rattle.units.specs.Classes.{classes_of, is_separator, is_strong}
use Rattle.units.specs.declared.bracket.Unit.{Unit as BidiUnit}
use Rattle.units.specs.declared.class.Class.{Class}
use Rattle.units.specs.declared.class.Class.TheVariants.{L, R, AL, B}
use Rattle.explicit.specs.declared.side.Side.TheVariants.{Unknown, LeftToRight, RightToLeft}
use Rattle.explicit.specs.FirstParagraph.{first_length}
use Rattle.paragraph.specs.ClassSets.{is_class}
use Rattle.paragraph.specs.FirstSides.{side_by}

plain_class : (c : Class) → is_class B c ≡ false → is_separator c ≡ false
plain_class B e = absurd (false≢true (sym e))
plain_class _ e = refl

first_of_or : (a b : Bool) → (a || b) ≡ false → a ≡ false
first_of_or true b e = e
first_of_or false b e = refl

second_of_or : (a b : Bool) → (a || b) ≡ false → b ≡ false
second_of_or true b e = absurd (false≢true (sym e))
second_of_or false b e = e

-- a text without a separator is its own first paragraph
pub one_paragraph : (us : List BidiUnit) → list_any (is_class B) (classes_of us) ≡ false → first_length us ≡ length us
one_paragraph [] none = refl
one_paragraph (unit ∷ units) none =
    rw (plain_class unit.class (first_of_or _ _ none)) (ap suc (one_paragraph units (second_of_or _ _ none)))

-- if no class is R or AL, the first strong class is L
pub side_left_to_right : (cs : List Class) → (list_any (is_class R) cs || list_any (is_class AL) cs) ≡ false →
    side_by (find is_strong cs) ≡ (if list_any (is_class L) cs then LeftToRight else Unknown)
side_left_to_right cs none = without cs (first_of_or _ _ none) (second_of_or _ _ none)
  where
    without : (cs : List Class) → list_any (is_class R) cs ≡ false → list_any (is_class AL) cs ≡ false →
        side_by (find is_strong cs) ≡ (if list_any (is_class L) cs then LeftToRight else Unknown)
    without [] r al = refl
    without (L ∷ cs) r al = refl
    without (R ∷ cs) r al = absurd (false≢true (sym r))
    without (AL ∷ cs) r al = absurd (false≢true (sym al))
    without (_ ∷ cs) r al = without cs r al

-- if no class is L, the first strong class is R or AL
or_true : (a : Bool) → (a || true) ≡ true
or_true true = refl
or_true false = refl

pub side_right_to_left : (cs : List Class) → list_any (is_class L) cs ≡ false →
    side_by (find is_strong cs) ≡
    (if list_any (is_class R) cs || list_any (is_class AL) cs then RightToLeft else Unknown)
side_right_to_left [] none = refl
side_right_to_left (L ∷ cs) none = absurd (false≢true (sym none))
side_right_to_left (R ∷ cs) none = refl
side_right_to_left (AL ∷ cs) none = rw (or_true (list_any (is_class R) cs)) refl
side_right_to_left (_ ∷ cs) none = side_right_to_left cs none

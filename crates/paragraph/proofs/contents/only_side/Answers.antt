use Rattle.std.proofs.Common.{◌≡◌, Bool, true, false, ap, sym, ◌∙◌}
use Rattle.std.proofs.lemmas.Bool.{false≢true}
use Rattle.std.specs.Prelude.{◌&&◌, ◌||◌, if◌then◌else◌}
use Rattle.std.specs.List.{list_any}
use Rattle.units.specs.declared.class.Class.TheVariants.{L, R, AL}
use Rattle.explicit.specs.declared.side.Side.TheVariants.{Unknown, LeftToRight, RightToLeft}
use Rattle.paragraph.specs.ClassSets.{is_class}
use Rattle.paragraph.proofs.KnownSets.{side_left_to_right, side_right_to_left}
use Rattle.paragraph.proofs.contents.only_side.Goals as goal

-- of two that are not both true, the second is false if the first is true
other_false : (a b : Bool) → (a && b) ≡ false → a ≡ true → b ≡ false
other_false true b none e = none
other_false false b none e = absurd (false≢true e)

pub returns-then-left_to_right : goal.returns-then-left_to_right
returns-then-left_to_right c = λ cs is.
    let one : list_any (is_class L) cs ≡ true = sym (c.has-left_to_right.ensures cs is) ∙ c.if-left_to_right.true in
    let other : (list_any (is_class R) cs || list_any (is_class AL) cs) ≡ false =
    rw (← c.has.ensures cs is, ← c.has-2.ensures cs is)
    (other_false _ _ c.if-left_to_right-right_to_left.false c.if-left_to_right.true) in
    sym (side_left_to_right cs other ∙ ap (λ b. if b then LeftToRight else Unknown) one)

pub returns-then-right_to_left : goal.returns-then-right_to_left
returns-then-right_to_left c = λ cs is.
    let one : list_any (is_class L) cs ≡ false = sym (c.has-left_to_right.ensures cs is) ∙ c.if-left_to_right.false in
    let other : (list_any (is_class R) cs || list_any (is_class AL) cs) ≡ true =
    rw (← c.has.ensures cs is, ← c.has-2.ensures cs is) c.if-right_to_left.true in
    sym (side_right_to_left cs one ∙ ap (λ b. if b then RightToLeft else Unknown) other)

pub returns-else-right_to_left : goal.returns-else-right_to_left
returns-else-right_to_left c = λ cs is.
    let one : list_any (is_class L) cs ≡ false = sym (c.has-left_to_right.ensures cs is) ∙ c.if-left_to_right.false in
    let other : (list_any (is_class R) cs || list_any (is_class AL) cs) ≡ false =
    rw (← c.has.ensures cs is, ← c.has-2.ensures cs is) c.if-right_to_left.false in
    sym (side_right_to_left cs one ∙ ap (λ b. if b then RightToLeft else Unknown) other)

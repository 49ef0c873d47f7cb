use Rattle.std.proofs.Common.{arith, refl}
use Rattle.rows.proofs.DrawnText.{drawn-none, drawn-more, drawn-all}
use Rattle.rows.proofs.drawn.draw_letters.Goals as goal

pub loop-place-init : goal.loop-place-init
loop-place-init c = drawn-none _ _ _ _ refl

pub loop-place-preserved : goal.loop-place-preserved
loop-place-preserved c =
    drawn-more _ _ _ _ _ _ _ _ (omega arith) c.loop-place.invariant c.draw_letter.ensures.following
    c.draw_letter.ensures.letter

pub returns : goal.returns
returns c = drawn-all _ _ _ _ _ c.loop-place.place (omega arith) c.loop-place.invariant

use Rattle.std.proofs.Common.{length}
use Rattle.rows.proofs.DrawnText.{IsDrawnBy}
use Rattle.rows.proofs.drawn.draw_letters.Given as goal

abbrev pub invariant-loop-place : goal.invariant-loop-place
invariant-loop-place l = IsDrawnBy l.alphabet l.fn.rng l.rng l.text (length l.fn.text) l.place

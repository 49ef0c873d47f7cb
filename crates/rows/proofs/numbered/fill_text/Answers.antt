use Rattle.std.proofs.Common.{arith, refl}
use Rattle.rows.proofs.FilledText.{filled-none, filled-more, filled-all}
use Rattle.rows.proofs.numbered.fill_text.Goals as goal

pub loop-done-init : goal.loop-done-init
loop-done-init c = filled-none _ _ _ _ refl

pub loop-done-preserved : goal.loop-done-preserved
loop-done-preserved c = filled-more _ _ _ _ _ _ _ (omega arith) c.loop-done.invariant refl

pub returns-clause-text : goal.returns-clause-text
returns-clause-text c = filled-all _ _ _ _ _ _ (omega arith) c.loop-done.invariant

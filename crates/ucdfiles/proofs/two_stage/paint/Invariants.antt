use Rattle.ucdfiles.proofs.Painting.{IsPaintedUpTo}
use Rattle.ucdfiles.proofs.two_stage.paint.Given as goal

abbrev pub invariant-loop-k : goal.invariant-loop-k
invariant-loop-k g l = IsPaintedUpTo l.first l.span l.k l.initial.block l.block

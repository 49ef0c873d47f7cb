use Rattle.std.proofs.Common.{take}
use Rattle.ucdfiles.proofs.Painting.{IsPaintedBy}
use Rattle.ucdfiles.proofs.two_stage.paint_all.Given as goal

abbrev pub invariant-loop-span : goal.invariant-loop-span
invariant-loop-span g l = IsPaintedBy l.first (take l.span-index l.spans) l.initial.block l.block

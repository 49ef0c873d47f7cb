use Rattle.std.proofs.Common.{arith}
use Rattle.ucdfiles.proofs.Rising.{find-take}
use Rattle.ucdfiles.proofs.spans.beginning_by.Goals as goal

pub returns-clause-finds : goal.returns-clause-finds
returns-clause-finds g c code high =
    find-take c.args.spans.now c.begun_by-begun.result code (λ k d a b.
    omega (arith, c.begun_by-begun.ensures.above k d a b))

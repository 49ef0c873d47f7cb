use Rattle.std.proofs.Common.{refl, arith}
use Rattle.explicit.proofs.Holders.Represented.{pdi-overflow, pdi-ended, pdi-unmatched}
use Rattle.explicit.proofs.status.StatusStack.close_isolate.Goals as goal

pub returns-then-self-gt0-clause-closed : goal.returns-then-self-gt0-clause-closed
returns-then-self-gt0-clause-closed g c =
    λ depth cs para qs r. pdi-overflow depth cs para qs c.args.self.now r (omega arith)

pub returns-then-self-gt0-2-clause-closed : goal.returns-then-self-gt0-2-clause-closed
returns-then-self-gt0-2-clause-closed g c =
    λ depth cs para qs r.
    pdi-ended depth cs para qs c.args.self.now _ r (omega arith) (omega arith) c.pop_isolate.ensures.popped
    c.pop_isolate.ensures.overflow_isolates refl (omega (arith, c.pop_isolate.ensures.valid_isolates))

pub returns-else-self-gt0-2-clause-closed : goal.returns-else-self-gt0-2-clause-closed
returns-else-self-gt0-2-clause-closed g c =
    λ depth cs para qs r. pdi-unmatched depth cs para qs c.args.self.now r (omega arith) (omega arith)

use Rattle.std.proofs.Common.{arith}
use Rattle.explicit.proofs.Holders.Represented.{retained-bounded}
use Rattle.explicit.proofs.status.StatusStack.reject.Goals as goal

pub overflow_add-self : goal.overflow_add-self
overflow_add-self c = let b = retained-bounded c.args.self.now c.requires in omega (arith, b.overflow_isolates)

pub overflow_add-self-then-self-eq0 : goal.overflow_add-self-then-self-eq0
overflow_add-self-then-self-eq0 c = let b = retained-bounded c.args.self.now c.requires in
    omega (arith, b.overflow_embeddings)

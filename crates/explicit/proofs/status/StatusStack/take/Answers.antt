use Rattle.std.proofs.Common.{◌≤◌, arith, inl, inr}
use Rattle.std.proofs.lemmas.Bool.{cases_Bool}
use Rattle.explicit.proofs.Holders.Represented.{retained-bounded}
use Rattle.explicit.proofs.status.StatusStack.take.Goals as goal

pub overflow_add-self : goal.overflow_add-self
overflow_add-self c =
    let b = retained-bounded c.args.self.now c.requires in
    let one : c.from.result ≤ 1 =
    rw c.from.ensures (elim (cases_Bool c.args.entry.is_isolate) [
      | inl u ↦ rw u (omega arith)
      | inr u ↦
          rw u (omega arith)
    ]) in
    omega (arith, b.valid_isolates, one)

pub push-requires : goal.push-requires
push-requires c = let b = retained-bounded c.args.self.now c.requires in (omega arith, b.room)

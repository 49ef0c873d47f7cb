use Rattle.std.proofs.Common.{refl, arith, sym, ap, ◌∙◌, inl, inr}
use Rattle.std.proofs.lemmas.Bool.{not-false, not-true}
use Rattle.explicit.proofs.Holders.Represented.{pdf-within_overflow, pdf-overflow, pdf-retained, pdf-popped}
use Rattle.explicit.proofs.status.StatusStack.close_embedding.Goals as goal
use Rattle.explicit.proofs.status.StatusStack.close_embedding.Goals.{else-len-ge2-via-then-len-ge2+else-not-current, else-len-ge2-via-else-len-ge2}

pub returns-then-self-gt0-clause-closed : goal.returns-then-self-gt0-clause-closed
returns-then-self-gt0-clause-closed c =
    λ depth cs para qs r. pdf-within_overflow depth cs para qs c.args.self.now r (omega arith)

pub returns-then-self-gt0-2-clause-closed : goal.returns-then-self-gt0-2-clause-closed
returns-then-self-gt0-2-clause-closed c =
    λ depth cs para qs r. pdf-overflow depth cs para qs c.args.self.now r (omega arith) (omega arith)

pub returns-else-len-ge2-clause-closed : goal.returns-else-len-ge2-clause-closed
returns-else-len-ge2-clause-closed c =
    λ depth cs para qs r. pdf-retained depth cs para qs c.args.self.now r (omega arith) (omega arith)
    (elim c.else-len-ge2.branch [
      | else-len-ge2-via-then-len-ge2+else-not-current w ↦
          inr (
            w.current.result,
            ap (λ e. e.is_isolate) (sym w.current.ensures.value) ∙
                not-false _ w.if-not-current.false,
          )
      | else-len-ge2-via-else-len-ge2 w ↦ inl (omega arith)
    ])

pub returns-then-not-current-clause-closed : goal.returns-then-not-current-clause-closed
returns-then-not-current-clause-closed c =
    λ depth cs para qs r. pdf-popped depth cs para qs c.args.self.now _ c.current.result r (omega arith) (omega arith)
    (omega arith) (ap (λ e. e.is_isolate) (sym c.current.ensures.value) ∙
    not-true _ c.if-not-current.true) c.pop.ensures.rest refl refl refl

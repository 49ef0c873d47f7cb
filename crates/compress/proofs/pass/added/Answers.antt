use Rattle.std.proofs.Common.{◌∙◌, sym, arith}
use Rattle.compress.proofs.Laying.{adds_joined, adds_chosen, laid_later, laid_push}
use Rattle.compress.proofs.Unchanged.{unchanged_after}
use Rattle.compress.proofs.pass.added.Goals as goal
use Rattle.compress.proofs.pass.added.Goals.{else-m-gt0-via-then-m-gt0+else-joins, else-m-gt0-via-else-m-gt0}

pub returns-then-joins-clause-stack : goal.returns-then-joins-clause-stack
returns-then-joins-clause-stack c = λ us end laid next.
    adds_joined us c.args.direction c.args.chosen.now c.args.starts.now c.args.m c.args.p end c.args.unit c.if-m-gt0.true laid next (sym c.joins.ensures ∙ c.if-joins.true)

pub returns-then-joins-clause-laid : goal.returns-then-joins-clause-laid
returns-then-joins-clause-laid c = λ us end laid next.
    let later = next.later in
    laid_later us c.args.starts.now c.args.m c.args.p end (omega arith) next.within (λ z. absurd (omega (arith, c.if-m-gt0.true))) laid

pub returns-clause-stack : goal.returns-clause-stack
returns-clause-stack c = λ us end laid next.
    adds_chosen us c.args.direction c.args.chosen.now c.args.starts.now c.args.m c.args.p end c.args.unit c.stored.result c.requires.chosen c.requires.starts
    c.stored.ensures next
    (λ lt. elim c.else-m-gt0.branch [
      | else-m-gt0-via-then-m-gt0+else-joins w ↦ sym w.joins.ensures ∙ w.if-joins.false
      | else-m-gt0-via-else-m-gt0 w ↦ absurd (omega (arith, w.if-m-gt0.false))
    ])

pub returns-clause-laid : goal.returns-clause-laid
returns-clause-laid c = λ us end laid next.
    laid_push us c.args.starts.now c.args.m c.args.p end c.stored.result c.requires.starts c.stored.ensures next.later next.within laid

pub returns-clause-unchanged : goal.returns-clause-unchanged
returns-clause-unchanged c = unchanged_after c.args.chosen.now c.args.starts.now c.args.m c.args.unit c.stored.result

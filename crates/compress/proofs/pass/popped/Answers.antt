use Rattle.std.proofs.Common.{◌∙◌, sym}
use Rattle.compress.proofs.Laying.{pops, pops_none, pops_few, laid_less}
use Rattle.compress.proofs.pass.popped.Goals as goal
use Rattle.compress.proofs.pass.popped.Goals.{else-m-gt1-via-then-m-gt1+else-is_between, else-m-gt1-via-else-m-gt1}

pub returns-then-is_between-clause-stack : goal.returns-then-is_between-clause-stack
returns-then-is_between-clause-stack c =
    λ us starts end laid. pops us c.args.chosen.now starts c.args.m end c.args.unit c.if-m-gt1.true laid (sym c.is_between.ensures ∙ c.if-is_between.true)

pub returns-then-is_between-clause-laid : goal.returns-then-is_between-clause-laid
returns-then-is_between-clause-laid c = λ us starts end laid. laid_less us starts c.args.m end c.if-m-gt1.true laid

pub returns-else-m-gt1-clause-stack : goal.returns-else-m-gt1-clause-stack
returns-else-m-gt1-clause-stack c = λ us starts end laid.
    elim c.else-m-gt1.branch [
      | else-m-gt1-via-then-m-gt1+else-is_between w ↦
          pops_none us c.args.chosen.now starts c.args.m end c.args.unit w.if-m-gt1.true (sym w.is_between.ensures ∙ w.if-is_between.false)
      | else-m-gt1-via-else-m-gt1 w ↦ pops_few us c.args.chosen.now starts c.args.m end c.args.unit w.if-m-gt1.false
    ]

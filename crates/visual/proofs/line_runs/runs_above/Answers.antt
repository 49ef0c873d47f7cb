use Rattle.std.proofs.Common.{arith}
use Rattle.visual.proofs.SameCount.{at_most, few_runs}
use Rattle.visual.proofs.line_runs.runs_above.Goals as goal

pub returns-then-line-items : goal.returns-then-line-items
returns-then-line-items c = λ runs are. omega (arith, few_runs c.args.line.now runs are, c.if-line-items.true)

pub returns-else-items-count : goal.returns-else-items-count
returns-else-items-count c =
    at_most c.args.line.now c.run_count-count.result c.args.items c.run_count-count.ensures (omega (
      arith,
      c.if-items-count.false,
    ))

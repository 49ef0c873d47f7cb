use Rattle.std.proofs.Common.{arith, append_assoc}
use Rattle.printing.proofs.DecimalPairs.{last_two, two_fewer}
use Rattle.printing.proofs.decimals.put_few.Goals as goal

pub put_pair-requires-clause-room : goal.put_pair-requires-clause-room
put_pair-requires-clause-room c = omega (arith, two_fewer c.args.number c.if-number-lt100.false (omega arith))

pub put_one_or_two-requires-2-clause-room : goal.put_one_or_two-requires-2-clause-room
put_one_or_two-requires-2-clause-room c = omega (arith, two_fewer c.args.number c.if-number-lt100.false (omega arith))

pub returns-clause-start : goal.returns-clause-start
returns-clause-start c = omega (arith, two_fewer c.args.number c.if-number-lt100.false (omega arith))

pub returns-clause-written : goal.returns-clause-written
returns-clause-written c =
    rw (
      c.put_one_or_two-2.ensures.written,
      c.put_pair.ensures.written,
      last_two c.args.number c.if-number-lt100.false (omega arith),
      append_assoc,
    )

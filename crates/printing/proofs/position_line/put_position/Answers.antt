use Rattle.std.proofs.Common.{rules, arith}
use Rattle.std.proofs.lemmas.Fmt.{length-decimal-le}
use Rattle.std.proofs.lemmas.List.{drop_all}
use Rattle.printing.proofs.position_line.put_position.Goals as goal

pub put_decimal-requires : goal.put_decimal-requires
put_decimal-requires c =
    let few = length-decimal-le 20 c.args.position (omega arith) (omega arith) (omega arith) in
    record { room = omega arith; within = search rules }

pub returns-clause-written : goal.returns-clause-written
returns-clause-written c =
    rw (
      c.put_decimal.ensures.written,
      c.put_byte-start-4.ensures.written,
      c.put_code-start.ensures.written,
      c.put_byte-start-3.ensures.written,
      c.put_name-start.ensures.written,
      c.put_byte-start-2.ensures.written,
      c.put_level-start.ensures.written,
      c.put_byte-start.ensures.written,
      drop_all 40 c.args.line.now (omega arith),
    )

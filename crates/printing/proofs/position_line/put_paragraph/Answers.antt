use Rattle.std.proofs.Common.{rules, arith}
use Rattle.std.proofs.lemmas.Fmt.{length-decimal-le}
use Rattle.std.proofs.lemmas.List.{drop_all}
use Rattle.printing.proofs.position_line.put_paragraph.Goals as goal

pub put_decimal-start-requires : goal.put_decimal-start-requires
put_decimal-start-requires c =
    let one = length-decimal-le 1 c.from.result (omega arith) (omega arith) (omega arith) in
    record { room = omega arith; within = search rules }

pub put_bytes-start-requires-clause-room : goal.put_bytes-start-requires-clause-room
put_bytes-start-requires-clause-room c =
    let one = length-decimal-le 1 c.from.result (omega arith) (omega arith) (omega arith) in
    omega arith

pub put_decimal-start-requires-2 : goal.put_decimal-start-requires-2
put_decimal-start-requires-2 c =
    let one = length-decimal-le 1 c.from.result (omega arith) (omega arith) (omega arith) in
    let few = length-decimal-le 20 c.args.number (omega arith) (omega arith) (omega arith) in
    record { room = omega arith; within = search rules }

pub put_bytes-requires-clause-room : goal.put_bytes-requires-clause-room
put_bytes-requires-clause-room c =
    let one = length-decimal-le 1 c.from.result (omega arith) (omega arith) (omega arith) in
    let few = length-decimal-le 20 c.args.number (omega arith) (omega arith) (omega arith) in
    omega arith

pub returns-clause-written : goal.returns-clause-written
returns-clause-written c =
    rw (
      c.put_bytes.ensures.written,
      c.put_decimal-start-2.ensures.written,
      c.put_bytes-start.ensures.written,
      c.put_decimal-start.ensures.written,
      c.put_byte-start.ensures.written,
      drop_all 40 c.args.line.now (omega arith),
      c.from.ensures,
      c.get.ensures.value,
      c.level.ensures.value,
    )

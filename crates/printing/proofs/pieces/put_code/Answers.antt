use Rattle.std.proofs.Common.{arith, append_assoc}
use Rattle.printing.proofs.HexDigits.{code_in_parts}
use Rattle.printing.proofs.pieces.put_code.Goals as goal

pub returns-clause-written : goal.returns-clause-written
returns-clause-written c =
    rw (
      c.put_front.ensures.written,
      c.put_last_digit-start-4.ensures.written,
      c.put_last_digit-start-3.ensures.written,
      c.put_last_digit-start-2.ensures.written,
      c.put_last_digit-start.ensures.written,
      c.from-code.ensures,
      code_in_parts c.args.character (omega arith),
      append_assoc,
    )

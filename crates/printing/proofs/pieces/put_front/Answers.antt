use Rattle.std.proofs.Common.{arith}
use Rattle.printing.proofs.HexDigits.{front_of_one, front_of_two}
use Rattle.printing.proofs.pieces.put_front.Goals as goal

pub returns-then-front-lt16-clause-written : goal.returns-then-front-lt16-clause-written
returns-then-front-lt16-clause-written c =
    rw (front_of_one c.args.front (omega (arith, c.if-front-eq0.false)) c.if-front-lt16.true)
    c.put_last_digit-start.ensures.written

pub returns-clause-written : goal.returns-clause-written
returns-clause-written c =
    rw (
      front_of_two c.args.front c.if-front-lt16.false c.requires.two,
      c.put_last_digit.ensures.written,
      c.put_last_digit-start.ensures.written,
    )

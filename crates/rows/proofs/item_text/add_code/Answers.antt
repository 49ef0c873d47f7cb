use Rattle.std.proofs.Common.{◌≡◌, ◌/◌, append_assoc, arith}
use Rattle.printing.proofs.HexDigits.{code_in_parts, front_of_one, front_of_two, small_code}
use Rattle.rows.proofs.item_text.add_code.Goals as goal

pub returns-then-number-lt65536-clause-text : goal.returns-then-number-lt65536-clause-text
returns-then-number-lt65536-clause-text c =
    rw (
      c.add_four_digits.ensures.text,
      c.from-number.ensures,
      small_code c.args.code (omega (arith, c.if-number-lt65536.true, c.from-number.ensures)),
    )

pub returns-then-number-lt1048576-clause-text : goal.returns-then-number-lt1048576-clause-text
returns-then-number-lt1048576-clause-text c =
    let is = c.from-number.ensures in
    let front = front_of_one (c.args.code / 65536) (omega (arith, c.if-number-lt65536.false, is)) (omega (
      arith,
      c.if-number-lt1048576.true,
      is,
    )) in
    rw (
      c.add_four_digits-then-number-lt1048576.ensures.text,
      c.push.ensures.items,
      c.last_digit.ensures,
      is,
      code_in_parts c.args.code (omega (arith, c.ranges.code)),
      front,
      append_assoc,
    )

pub returns-else-number-lt1048576-clause-text : goal.returns-else-number-lt1048576-clause-text
returns-else-number-lt1048576-clause-text c =
    let is = c.from-number.ensures in
    let within = c.ranges.code in
    let sixth : c.args.code / 65536 / 16 ≡ c.args.code / 1048576 = omega arith in
    rw (
      c.add_four_digits-else-number-lt1048576.ensures.text,
      c.push-else-number-lt1048576-2.ensures.items,
      c.push-else-number-lt1048576.ensures.items,
      c.last_digit-else-number-lt1048576-2.ensures,
      c.last_digit-else-number-lt1048576.ensures,
      is,
      code_in_parts c.args.code (omega (arith, within)),
      front_of_two (c.args.code / 65536) (omega (arith, c.if-number-lt1048576.false, is)) (omega (arith, within)),
      sixth,
      append_assoc,
      append_assoc,
    )

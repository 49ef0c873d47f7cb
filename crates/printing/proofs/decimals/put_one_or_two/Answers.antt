use Rattle.std.proofs.Common.{◌≡◌, ◌+◌, ◌-◌, arith}
use Rattle.std.proofs.lemmas.Fmt.{decimal_digit}
use Rattle.std.proofs.lemmas.List.{drop-set}
use Rattle.printing.proofs.DecimalPairs.{one_digit, two_digits, two_long}
use Rattle.printing.proofs.decimals.put_one_or_two.Goals as goal

pub put_pair-requires-clause-room : goal.put_pair-requires-clause-room
put_pair-requires-clause-room c = omega (arith, two_long c.args.number c.if-number-ge10.true c.requires.two)

pub returns-then-number-ge10-clause-start : goal.returns-then-number-ge10-clause-start
returns-then-number-ge10-clause-start c = omega (arith, two_long c.args.number c.if-number-ge10.true c.requires.two)

pub returns-then-number-ge10-clause-written : goal.returns-then-number-ge10-clause-written
returns-then-number-ge10-clause-written c =
    rw (two_digits c.args.number c.if-number-ge10.true c.requires.two) c.put_pair.ensures.written

pub overflow_sub-line : goal.overflow_sub-line
overflow_sub-line c = omega (arith, one_digit c.args.number c.if-number-ge10.false)

pub bounds-line-end : goal.bounds-line-end
bounds-line-end c = omega (arith, one_digit c.args.number c.if-number-ge10.false)

pub overflow_sub-result-2 : goal.overflow_sub-result-2
overflow_sub-result-2 c = omega (arith, one_digit c.args.number c.if-number-ge10.false)

pub returns-clause-start : goal.returns-clause-start
returns-clause-start c = omega (arith, one_digit c.args.number c.if-number-ge10.false)

pub returns-clause-written : goal.returns-clause-written
returns-clause-written c =
    let long = one_digit c.args.number c.if-number-ge10.false in
    let back : c.args.end - 1 + 1 ≡ c.args.end = omega arith in
    rw (
      drop-set c.args.line.now (c.args.end - 1) _ (omega arith),
      back,
      decimal_digit c.args.number c.if-number-ge10.false,
    )

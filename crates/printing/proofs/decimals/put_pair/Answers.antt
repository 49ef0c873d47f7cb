use Rattle.std.proofs.Common.{◌≡◌, ◌+◌, ◌-◌, ◌%◌, set, arith, length-set}
use Rattle.std.proofs.lemmas.List.{drop-set}
use Rattle.printing.proofs.DecimalPairs.{digits_in_table}
use Rattle.printing.proofs.decimals.put_pair.Goals as goal

pub returns-clause-written : goal.returns-clause-written
returns-clause-written c =
    let digits = digits_in_table c.args.pair c.requires.two in
    let end = c.args.end in
    let line = c.args.line.now in
    let one : end - 2 + 1 ≡ end - 1 = omega arith in
    let two : end - 1 + 1 ≡ end = omega arith in
    rw (
      c.from-tens.ensures,
      digits.0,
      digits.1,
      drop-set (set line (end - 1) (48 + c.args.pair % 10)) (end - 2) _ (omega (
        arith,
        length-set line (end - 1) (48 + c.args.pair % 10),
      )),
      one,
      drop-set line (end - 1) _ (omega arith),
      two,
    )

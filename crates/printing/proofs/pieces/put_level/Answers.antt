use Rattle.std.proofs.Common.{rules, arith}
use Rattle.std.proofs.lemmas.Fmt.{length-decimal-le}
use Rattle.printing.proofs.pieces.put_level.Goals as goal

pub put_decimal-requires : goal.put_decimal-requires
put_decimal-requires c =
    let few = length-decimal-le 3 c.from.result (omega arith) (omega arith) (omega arith) in
    record { room = omega arith; within = search rules }

pub returns-in-Some-clause-few : goal.returns-in-Some-clause-few
returns-in-Some-clause-few c =
    let few = length-decimal-le 3 c.from.result (omega arith) (omega arith) (omega arith) in
    omega arith

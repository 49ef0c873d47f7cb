use Rattle.std.proofs.Common.{rules, arith}
use Rattle.std.proofs.lemmas.Fmt.{length-decimal-le}
use Rattle.rows.proofs.item_text.add_longer.Goals as goal

pub put_decimal-start-requires : goal.put_decimal-start-requires
put_decimal-start-requires c =
    let few = length-decimal-le 20 c.args.number (omega arith) (omega arith) (omega arith) in
    record { room = omega arith; within = search rules }

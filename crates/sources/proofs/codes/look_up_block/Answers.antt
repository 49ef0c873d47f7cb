use Rattle.std.proofs.Common.{arith}
use Rattle.std.proofs.lemmas.List.{get_or-take, length-take-le}
use Rattle.sources.proofs.codes.look_up_block.Goals as goal

pub look_up_ascii-requires-clause-small : goal.look_up_ascii-requires-clause-small
look_up_ascii-requires-clause-small c k lt =
    let block = c.args.block.now in
    omega (
      arith,
      c.is_ascii.ensures c.if-is_ascii.true k (omega (arith, lt, length-take-le 4 block (omega (arith, c.requires.len)))),
      get_or-take 4 block k 0 lt,
    )

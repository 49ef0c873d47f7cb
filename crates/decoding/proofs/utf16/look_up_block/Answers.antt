use Rattle.std.proofs.Common.{arith, subst}
use Rattle.std.specs.Str.{IsAscii}
use Rattle.std.proofs.lemmas.List.{take_all}
use Rattle.decoding.proofs.utf16.look_up_block.Goals as goal

pub write_ascii-requires-clause-small : goal.write_ascii-requires-clause-small
write_ascii-requires-clause-small c =
    subst IsAscii (take_all 8 c.args.block.now (omega (arith, c.requires.len))) (c.is_ascii.ensures c.if-is_ascii.true)

use Rattle.decoding.proofs.utf8.decode_block.Goals as goal

pub decode_ascii-requires-clause-ascii : goal.decode_ascii-requires-clause-ascii
decode_ascii-requires-clause-ascii c = (c.begins_ascii.ensures c.if-begins_ascii.true).1

use Rattle.std.proofs.Common.{arith}
use Rattle.decoding.proofs.utf16.begins_block.Goals as goal

pub returns-then-text-at-ge-BLOCK : goal.returns-then-text-at-ge-BLOCK
returns-then-text-at-ge-BLOCK c = λ none. (
  omega (arith, c.if-text-at-ge-BLOCK.true, c.requires),
  c.are_no_surrogates.ensures none,
)

use Rattle.std.proofs.Common.{eqb-true}
use Rattle.decoding.proofs.Utf8Blocks.{followed_of_masks, none_of_masks}
use Rattle.decoding.proofs.utf8.are_followed.Goals as goal

pub returns-then-both-eq0 : goal.returns-then-both-eq0
returns-then-both-eq0 c passed =
    let a = c.args in
    none_of_masks a.above a.below a.limit a.block c.equal_to-first.result c.equal_to.result c.fits-block.0 c.requires
    c.equal_to-first.ensures.bits c.equal_to.ensures.bits (eqb-true _ _ passed)

pub returns-else-both-eq0 : goal.returns-else-both-eq0
returns-else-both-eq0 c passed =
    let a = c.args in
    followed_of_masks a.above a.below a.limit a.block c.equal_to-first.result c.equal_to.result c.at_least.result
    c.fits-block.0 c.requires c.equal_to-first.ensures.bits c.equal_to.ensures.bits c.at_least.ensures.bits
    (eqb-true _ _ passed)

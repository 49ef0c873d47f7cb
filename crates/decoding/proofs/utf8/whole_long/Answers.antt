use Rattle.std.proofs.Common.{arith}
use Rattle.decoding.proofs.WholeChars.{owes_none, whole_text}
use Rattle.decoding.proofs.utf8.whole_long.Goals as goal

pub returns-clause-text : goal.returns-clause-text
returns-clause-text c =
    let block = c.args.block in
    let leads = c.at_least-leads.ensures.bits in
    let threes = c.at_least-threes.ensures.bits in
    let fours = c.at_least-fours.ensures.bits in
    let owes = owes_none block c.fits-block.0
    (omega (arith, c.if-leads-threes.false, leads, threes, fours, c.at_least.ensures.bits))
    (omega (arith, c.if-at_least-leads.false, c.at_least-else-leads-threes.ensures.bits, leads))
    (c.are_fours.ensures.most c.if-not-are_fours.false) (c.are_followed.ensures c.if-not-are_followed.false)
    (c.are_fours.ensures.followed c.if-not-are_fours.false) in
    whole_text block _ c.fits-block.0 owes
    (omega (arith, leads, threes, fours, c.at_least-leads.ensures.small, c.at_least-threes.ensures.small))

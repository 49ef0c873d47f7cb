use Rattle.std.proofs.Common.{arith}
use Rattle.decoding.proofs.Utf8Blocks.{none_above}
use Rattle.decoding.proofs.WholeChars.{owes_pairs, whole_text}
use Rattle.decoding.proofs.utf8.whole_pairs.Goals as goal

pub returns-clause-text : goal.returns-clause-text
returns-clause-text c =
    let block = c.args.block in
    let leads = c.at_least-leads.ensures.bits in
    let others = c.at_least-others.ensures.bits in
    let fours = none_above 224 240 block (omega arith) c.requires in
    let owes = owes_pairs block c.fits-block.0 c.requires (omega (arith, c.if-leads-others.false, leads, others))
    (omega (arith, c.if-at_least-leads.false, c.at_least.ensures.bits, leads)) in
    whole_text block _ c.fits-block.0 owes (omega (arith, leads, c.at_least-leads.ensures.small, c.requires, fours))

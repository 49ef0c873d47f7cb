use Rattle.decoding.proofs.Utf16Blocks.{no_surrogates_of_mask}
use Rattle.decoding.proofs.utf16.are_no_surrogates.Goals as goal

pub returns : goal.returns
returns c = no_surrogates_of_mask c.args.block c.fits-block.0

use Rattle.decoding.proofs.Utf8Tests.{ascii_of_mask}
use Rattle.decoding.proofs.utf8.is_ascii.Goals as goal

pub returns : goal.returns
returns c = ascii_of_mask c.args.block c.fits-block.0

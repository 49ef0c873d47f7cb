use Rattle.std.proofs.Common.{arith, eqb-true}
use mir.Syntax.{w32}
use Rattle.decoding.proofs.AsciiBlocks.{ascii_of_or}
use Rattle.sources.proofs.codes.is_ascii.Goals as goal

pub returns : goal.returns
returns c = λ none. ascii_of_or w32 c.args.block 4 (omega arith) c.fits-block.0 c.fits-block.1 (eqb-true _ _ none)

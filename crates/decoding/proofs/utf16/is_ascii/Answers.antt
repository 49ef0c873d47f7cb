use Rattle.std.proofs.Common.{arith, eqb-true, length, inl, inr}
use lib.ListN.{get_or-eq_default}
use Rattle.std.proofs.lemmas.Bool.{cases_lt}
use mir.Syntax.{w16}
use Rattle.decoding.proofs.AsciiBlocks.{ascii_of_or}
use Rattle.decoding.proofs.utf16.is_ascii.Goals as goal

pub returns : goal.returns
returns c = λ none i. elim (cases_lt i (length c.args.block)) [
  | inl inside ↦ ascii_of_or w16 c.args.block 8 (omega arith) c.fits-block.0 c.fits-block.1 (eqb-true _ _ none) i inside
  | inr past ↦ omega (arith, get_or-eq_default c.args.block 0 {n = i} past)
]

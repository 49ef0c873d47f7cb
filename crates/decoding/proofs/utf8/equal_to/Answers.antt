use Rattle.std.proofs.Common.{◌<◌, ◌^◌, eqb, ℕ, subst, sym}
use Rattle.decoding.proofs.Utf8Blocks.{mask_equal, mask_small}
use Rattle.decoding.proofs.utf8.equal_to.Goals as goal

pub returns-clause-small : goal.returns-clause-small
returns-clause-small c =
    subst (λ (m : ℕ). m < 2 ^ 16) (sym (mask_equal c.args.byte c.args.block c.fits-block.0))
    (mask_small (λ x. eqb x c.args.byte) c.args.block c.fits-block.0)

pub returns-clause-bits : goal.returns-clause-bits
returns-clause-bits c = mask_equal c.args.byte c.args.block c.fits-block.0

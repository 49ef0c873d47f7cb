use Rattle.std.proofs.Common.{◌<◌, ◌^◌, leb, ℕ, subst, sym}
use Rattle.decoding.proofs.Utf8Blocks.{mask_at_least, mask_small}
use Rattle.decoding.proofs.utf8.at_least.Goals as goal

pub returns-clause-small : goal.returns-clause-small
returns-clause-small c =
    subst (λ (m : ℕ). m < 2 ^ 16) (sym (mask_at_least c.args.least c.args.block c.fits-block.0))
    (mask_small (leb c.args.least) c.args.block c.fits-block.0)

pub returns-clause-bits : goal.returns-clause-bits
returns-clause-bits c = mask_at_least c.args.least c.args.block c.fits-block.0

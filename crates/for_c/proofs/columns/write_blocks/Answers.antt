use Rattle.std.proofs.Common.{arith, ◌∙◌, ◌≡◌, ◌+◌, ◌*◌, ℕ}
use Rattle.for_c.proofs.LevelBlocks.{later_unchanged}
use Rattle.for_c.proofs.columns.write_blocks.Goals as goal

pub loop-block-preserved : goal.loop-block-preserved
loop-block-preserved c =
    let l = c.loop-block in
    let k : ℕ = l.block * 16 in
    let next : (l.block + 1) * 16 ≡ k + 16 = omega arith in
    let written = c.write_block.ensures in
    rw next (
      written.written,
      written.following ∙ later_unchanged k 16 c.args.out.now l.out l.invariant.1,
    )

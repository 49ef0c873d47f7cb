use Rattle.std.proofs.Common.{◌+◌, arith}
use Rattle.sequences.proofs.Blocks.{joined_both}
use Rattle.sequences.proofs.heads.pass_eights.Goals as goal

pub loop-p-preserved : goal.loop-p-preserved
loop-p-preserved g c =
    let l = c.loop-p in
    record {
      later = omega (arith, l.invariant.later);
      within = omega arith;
      passed = joined_both c.args.joined.now c.args.from l.p (l.p + 8) l.invariant.passed
          (c.are_eight_joined.ensures c.if-are_eight_joined.true);
      steps = omega (arith, c.add.ensures, l.invariant.steps);
    }

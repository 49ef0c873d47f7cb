use Rattle.std.proofs.Common.{arith}
use Rattle.decoding.proofs.Utf8Tests.{utf8_block}
use Rattle.decoding.proofs.utf8.ascii_end.Goals as goal

pub loop-at-preserved : goal.loop-at-preserved
loop-at-preserved c =
    let l = c.loop-at in
    record {
      forward = omega (arith, l.invariant.forward);
      inside = omega (arith, c.loop-at-test.true, l.invariant.inside);
      front = utf8_block c.args.bytes.now l.at 16 l.invariant.front (c.is_ascii.ensures c.if-is_ascii.true);
    }

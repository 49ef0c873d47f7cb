use Rattle.std.proofs.Common.{arith}
use Rattle.decoding.proofs.WholeChars.{utf8_whole}
use Rattle.decoding.proofs.utf8.chars_end.Goals as goal

pub loop-at-preserved : goal.loop-at-preserved
loop-at-preserved c =
    let l = c.loop-at in
    let whole = c.whole_chars-whole.ensures in
    record {
      forward = omega (arith, l.invariant.forward);
      inside = omega (arith, c.loop-at-test.true, l.invariant.inside, whole.inside);
      front = utf8_whole c.args.bytes.now l.at c.whole_chars-whole.result whole.inside l.invariant.front whole.text;
    }

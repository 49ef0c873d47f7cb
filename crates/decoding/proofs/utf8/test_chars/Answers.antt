use Rattle.std.proofs.Common.{◌-◌, ◌<◌, arith}
use Rattle.decoding.proofs.Spellings.{forward, utf8_more}
use Rattle.decoding.proofs.Utf8Tests.{first_fault}
use Rattle.decoding.proofs.utf8.test_chars.Goals as goal

pub returns-in_default-clause-fault : goal.returns-in_default-clause-fault
returns-in_default-clause-fault c =
    first_fault c.args.bytes.now c.loop-at.at (omega (
      arith,
      c.loop-at-test.true,
      c.requires.bounds.1,
    )) c.loop-at.invariant.front c.in_default.ensures

pub loop-at-smaller : goal.loop-at-smaller
loop-at-smaller c =
    let more = forward c.args.bytes.now c.loop-at.at c.in-Some.field-0-0 c.in-Some.following c.in-Some.ensures in
    let less : c.args.end - c.in-Some.following < c.args.end - c.loop-at.at =
    omega (arith, more, c.loop-at-test.true) in
    less

pub loop-at-preserved : goal.loop-at-preserved
loop-at-preserved c =
    let is = c.in-Some.ensures in
    record {
      inside = is.inside;
      front =
          utf8_more c.args.bytes.now c.loop-at.at c.in-Some.field-0-0 c.in-Some.following c.loop-at.invariant.front is;
    }

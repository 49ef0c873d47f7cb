use Rattle.std.proofs.Common.{◌≡◌, ◌-◌, arith, append_assoc}
use Rattle.printing.proofs.DecimalPairs.{four_fewer, last_four}
use Rattle.printing.proofs.decimals.put_decimal.Goals as goal

pub put_pair-requires-clause-room : goal.put_pair-requires-clause-room
put_pair-requires-clause-room c =
    omega (
      arith,
      four_fewer c.loop-remaining.remaining c.loop-remaining-test.true
          c.loop-remaining.auto.remaining-fits.fits,
    )

pub put_pair-requires-in-loop-remaining-clause-room : goal.put_pair-requires-in-loop-remaining-clause-room
put_pair-requires-in-loop-remaining-clause-room c =
    omega (
      arith,
      four_fewer c.loop-remaining.remaining c.loop-remaining-test.true
          c.loop-remaining.auto.remaining-fits.fits,
    )

pub loop-remaining-preserved : goal.loop-remaining-preserved
loop-remaining-preserved c =
    let l = c.loop-remaining in
    let fewer = four_fewer l.remaining c.loop-remaining-test.true l.auto.remaining-fits.fits in
    let last = last_four l.remaining c.loop-remaining-test.true l.auto.remaining-fits.fits in
    let four : l.start - 2 - 2 ≡ l.start - 4 = omega arith in
    record {
      room = omega arith;
      within = omega (arith, c.put_pair.ensures.len, c.put_pair-in-loop-remaining.ensures.len);
      start = omega (arith, l.invariant.start);
      written = rw (
        ← four,
        c.put_pair-in-loop-remaining.ensures.written,
        c.put_pair.ensures.written,
      ) (rw (last, append_assoc) at l.invariant.written);
    }

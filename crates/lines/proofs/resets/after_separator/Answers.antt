use Rattle.std.proofs.Common.{◌-◌, arith}
use Rattle.lines.proofs.ResetSteps.{passes_one}
use Rattle.lines.proofs.resets.after_separator.Goals as goal

pub loop-position-preserved : goal.loop-position-preserved
loop-position-preserved g c =
    let l = c.loop-position in
    record {
      back = record {
        from_start = omega arith;
        to_end = omega (arith, l.invariant.back.to_end);
        passed = passes_one c.args.own.now (l.position - 1) l.position _ _ _ (omega (
          arith,
          l.invariant.back.to_end,
        )) c.is_line_separator.ensures c.if-not-is_line_separator.true
            (omega arith) l.invariant.back.passed;
      };
      steps = omega (arith, c.tick.ensures, l.invariant.steps);
    }

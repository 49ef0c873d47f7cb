use Rattle.std.proofs.Common.{◌-◌, arith}
use Rattle.lines.proofs.ResetSteps.{passes_one}
use Rattle.lines.proofs.resets.pass_blocks.Goals as goal

pub loop-position-preserved : goal.loop-position-preserved
loop-position-preserved g c =
    let l = c.loop-position in
    let us = c.args.own.now in
    let p = l.position in
    let to_end = l.invariant.back.to_end in
    let first = passes_one us (p - 1) p _ _ _ (omega (
      arith,
      to_end,
    )) c.is_line_separator.ensures c.if-not-is_line_separator.true (omega arith) l.invariant.back.passed in
    let second = passes_one us (p - 2) (p - 1) _ _ _ (omega (
      arith,
      to_end,
    )) c.is_line_separator-then-not-is_line_separator.ensures c.if-not-is_line_separator-2.true
    (omega arith) first in
    let third = passes_one us (p - 3) (p - 2) _ _ _ (omega (
      arith,
      to_end,
    )) c.is_line_separator-then-not-is_line_separator-2.ensures c.if-not-is_line_separator-3.true
    (omega arith) second in
    let fourth = passes_one us (p - 4) (p - 3) _ _ _ (omega (
      arith,
      to_end,
    )) c.is_line_separator-then-not-is_line_separator-3.ensures c.if-not-is_line_separator-4.true
    (omega arith) third in
    record {
      back = record { from_start = omega arith; to_end = omega (arith, to_end); passed = fourth };
      steps = omega (arith, c.add.ensures, l.invariant.steps);
    }

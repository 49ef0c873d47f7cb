use Rattle.std.proofs.Common.{arith, take, ◌+◌}
use Rattle.lines.proofs.EightWritten.{rising_with}
use Rattle.lines.proofs.writing.write_eights_rising.Goals as goal

pub loop-position-preserved : goal.loop-position-preserved
loop-position-preserved g c =
    let l = c.loop-position in
    let eight = c.append_eight_rising-count in
    record {
      low = omega (arith, l.invariant.low);
      high = omega (arith, l.invariant.high);
      order = rising_with c.args.levels.now c.args.start l.position (l.position + 8) (take l.count l.order)
          (take eight.result eight.new.order) l.invariant.low (omega arith) l.invariant.order eight.ensures.order;
      count = omega (arith, l.invariant.count, l.invariant.low, eight.ensures.few);
      steps = omega (arith, l.invariant.steps, l.invariant.low, c.add.ensures);
    }

pub returns-clause-order : goal.returns-clause-order
returns-clause-order g c =
    let l = c.loop-position in
    let rest = c.append_each_rising in
    rising_with c.args.levels.now c.args.start l.position c.args.end (take l.count l.order)
    (take rest.result rest.new.order) l.invariant.low l.invariant.high l.invariant.order rest.ensures.order

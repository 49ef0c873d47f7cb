use Rattle.std.proofs.Common.{◌≡◌, ◌+◌, ◌-◌, ◌++◌, arith, take, ap, ◌∙◌}
use Rattle.std.specs.Prelude.{reverse}
use Rattle.lines.specs.LinePositions.{remaining}
use Rattle.lines.proofs.EightWritten.{falling_with}
use Rattle.lines.proofs.writing.write_eights_falling.Goals as goal

pub loop-position-preserved : goal.loop-position-preserved
loop-position-preserved g c =
    let l = c.loop-position in
    let levels = c.args.levels.now in
    let eight = c.append_eight_falling-count in
    let end : l.position - 8 + 8 ≡ l.position = omega arith in
    record {
      low = omega (arith, l.invariant.low);
      high = omega (arith, l.invariant.high);
      order = falling_with levels (l.position - 8) l.position c.args.end (take l.count l.order)
          (take eight.result eight.new.order) (omega arith) l.invariant.high l.invariant.order (eight.ensures.order ∙
          ap (λ n. take l.count l.order ++ reverse (remaining levels (l.position - 8) n)) end);
      count = omega (arith, l.invariant.count, l.invariant.high, eight.ensures.few);
      steps = omega (arith, l.invariant.steps, l.invariant.high, c.add.ensures);
    }

pub returns-clause-order : goal.returns-clause-order
returns-clause-order g c =
    let l = c.loop-position in
    let rest = c.append_each_falling in
    falling_with c.args.levels.now c.args.start l.position c.args.end (take l.count l.order)
    (take rest.result rest.new.order) l.invariant.low l.invariant.high l.invariant.order rest.ensures.order

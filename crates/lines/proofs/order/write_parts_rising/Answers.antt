use Rattle.std.proofs.Common.{◌≡◌, ◌+◌, ◌-◌, arith, ap, subst, sym, take, ◌∙◌}
use Rattle.lines.specs.StepBounds.{parts_of}
use Rattle.lines.proofs.LineParts.{AreParts, next_part, rising_more}
use Rattle.lines.proofs.order.write_parts_rising.Goals as goal

pub loop-position-preserved : goal.loop-position-preserved
loop-position-preserved g c =
    let l = c.loop-position in
    let line = c.args.line in
    let part = c.append_part-count in
    let size = c.min.result in
    let next : l.position + size - line.start ≡ l.position - line.start + size = omega (arith, l.invariant.low) in
    let more = next_part (l.position - line.start) (line.end - line.start) size (omega (arith, l.invariant.low))
    (omega (arith, l.invariant.low)) l.invariant.parts in
    let parts : parts_of (l.position + size - line.start) ≡ parts_of (l.position - line.start) + 1 =
    ap parts_of next ∙ more.1 in
    record {
      low = omega (arith, l.invariant.low);
      high = omega (arith, l.invariant.high);
      order = rising_more line.levels.now line.start line.end l.position (l.position + size) (take l.count l.order)
          (take part.result part.new.order) l.invariant.low (omega arith) (omega (arith, l.invariant.high))
          c.requires.level l.invariant.order part.ensures.order;
      count = omega (arith, l.invariant.count, l.invariant.low, part.ensures.few);
      parts = subst (λ n. AreParts n (line.end - line.start)) (sym next) more.0;
      steps = omega (arith, l.invariant.steps, l.invariant.low, c.tick.ensures, part.ensures.steps, parts);
    }

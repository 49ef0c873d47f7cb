use Rattle.std.proofs.Common.{◌≡◌, ◌+◌, ◌-◌, arith, ap, subst, sym, take, ◌∙◌}
use Rattle.lines.specs.StepBounds.{parts_of}
use Rattle.lines.proofs.LineParts.{AreParts, falling_more, next_part}
use Rattle.lines.proofs.order.write_parts_falling.Goals as goal

pub loop-position-preserved : goal.loop-position-preserved
loop-position-preserved g c =
    let l = c.loop-position in
    let line = c.args.line in
    let part = c.append_part-count in
    let size = c.min.result in
    let next : line.end - (l.position - size) ≡ line.end - l.position + size =
    omega (arith, l.invariant.low, l.invariant.high) in
    let more = next_part (line.end - l.position) (line.end - line.start) size (omega (arith, l.invariant.high))
    (omega (arith, l.invariant.high)) l.invariant.parts in
    let parts : parts_of (line.end - (l.position - size)) ≡ parts_of (line.end - l.position) + 1 =
    ap parts_of next ∙ more.1 in
    record {
      low = omega (arith, l.invariant.low);
      high = omega (arith, l.invariant.high);
      order = falling_more line.levels.now line.start line.end l.position (l.position - size) (take l.count l.order)
          (take part.result part.new.order) (omega (arith, l.invariant.low)) (omega arith) l.invariant.high
          c.requires.level l.invariant.order part.ensures.order;
      count = omega (arith, l.invariant.count, l.invariant.high, part.ensures.few);
      parts = subst (λ n. AreParts n (line.end - line.start)) (sym next) more.0;
      steps = omega (arith, l.invariant.steps, l.invariant.high, c.tick.ensures, part.ensures.steps, parts);
    }

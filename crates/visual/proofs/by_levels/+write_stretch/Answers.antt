use Rattle.std.proofs.Common.{arith}
use Rattle.std.proofs.lemmas.Grind.{common_steps}
use Rattle.visual.proofs.GivenOrder.{written_higher, written_none, written_one}
use Rattle.visual.proofs.by_levels.+write_stretch.Goals as goal

pub loop-end-init : goal.loop-end-init
loop-end-init t c =
    record {
      len = c.requires.capacity;
      so_far = written_none c.args.levels.now c.args.start c.args.least c.args.order.now c.requires.start;
    }

pub loop-end-preserved-then-levels-end-2 : goal.loop-end-preserved-then-levels-end-2
loop-end-preserved-then-levels-end-2 t c =
    let l = c.loop-end in
    let stretch = c.write_stretch-higher_end.ensures in
    record {
      len = omega (arith, c.reverse_span.ensures.len, stretch.len, l.invariant.len);
      so_far = written_higher c.args.levels.now l.invariant.so_far l.invariant.len (grind (
        arith,
        common_steps,
      )) c.write_stretch-higher_end.result c.write_stretch-higher_end.new.order c.reverse_span.new.order
          (grind (arith, common_steps)) stretch.forward stretch.within (record {
            above =
                stretch.above;
          }) stretch.stops stretch.order c.reverse_span.ensures.reversed;
    }

pub loop-end-preserved : goal.loop-end-preserved
loop-end-preserved t c =
    let l = c.loop-end in
    record {
      len = grind (arith, common_steps);
      so_far = written_one c.args.levels.now l.invariant.so_far l.invariant.len (grind (arith, common_steps))
          (grind (arith, common_steps));
    }

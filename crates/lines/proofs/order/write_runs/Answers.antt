use Rattle.std.proofs.Common.{◌+◌, ◌*◌, ◌-◌, arith, sym, ◌∙◌}
use Rattle.lines.proofs.RunWriting.{next-within, next_run, writes_start}
use Rattle.lines.proofs.order.write_runs.Goals as goal

pub loop-position-init : goal.loop-position-init
loop-position-init g c =
    record {
      writes = writes_start c.args.line.levels.now c.link_line.new.runs c.args.line.start c.args.line.end
          (c.link_line.new.steps + 2 * (c.args.line.end - c.args.line.start)) c.in-Some.chain c.args.order.now
          c.link_line.new.steps c.args.line.forward c.in-Some.ensures.linked (omega arith);
      at_least = omega arith;
    }

pub bounds-runs-position : goal.bounds-runs-position
bounds-runs-position g c =
    let l = c.loop-position in
    let n = next_run l.invariant.writes in
    omega (arith, c.link_line.auto.runs, next-within c.args.line.start c.args.line.end c.args.line.forward n)

pub invariant_of-run : goal.invariant_of-run
invariant_of-run g c =
    let n = next_run c.loop-position.invariant.writes in
    record { forward = omega (arith, n.run.rises); within = n.run.within }

pub append_run-count-requires : goal.append_run-count-requires
append_run-count-requires g c =
    let l = c.loop-position in
    let n = next_run l.invariant.writes in
    record { run = n.run; room = omega (arith, n.room, l.auto.order) }

pub returns-then-position-chain : goal.returns-then-position-chain
returns-then-position-chain g c =
    let l = c.loop-position in
    let n = next_run l.invariant.writes in
    record {
      order = c.append_run-count.ensures.order ∙ sym (n.ends c.if-position-chain.true);
      count = omega (arith, n.room, c.append_run-count.ensures.few);
      at_least = omega (arith, l.invariant.at_least, c.append_run-count.ensures.steps, c.tick.ensures);
      at_most = omega (
        arith,
        n.budget,
        n.run.rises,
        c.in-Some.ensures.at_most,
        c.append_run-count.ensures.steps,
        c.tick.ensures,
      );
    }

pub loop-position-smaller : goal.loop-position-smaller
loop-position-smaller g c =
    let l = c.loop-position in
    let n = next_run l.invariant.writes in
    omega (arith, n.room, n.run.rises, c.append_run-count.ensures.some, c.append_run-count.auto.order, l.auto.order)

pub loop-position-preserved : goal.loop-position-preserved
loop-position-preserved g c =
    let l = c.loop-position in
    let n = next_run l.invariant.writes in
    record {
      writes = n.goes_on _ c.append_run-count.result c.append_run-count.new.steps c.if-position-chain.false
          c.append_run-count.ensures.order c.append_run-count.ensures.few (omega (
            arith,
            c.append_run-count.ensures.steps,
            c.tick.ensures,
          ));
      at_least = omega (arith, c.append_run-count.ensures.steps, c.tick.ensures, l.invariant.at_least);
    }

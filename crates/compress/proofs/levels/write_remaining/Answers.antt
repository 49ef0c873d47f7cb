use Rattle.std.proofs.Common.{arith}
use Rattle.compress.proofs.Runs.{run_none, run_more}
use Rattle.compress.proofs.levels.write_remaining.Goals as goal

pub loop-p-init : goal.loop-p-init
loop-p-init g c = record {
  run = run_none c.args.para.now c.args.start c.args.level.now c.args.levels.now;
  steps = omega arith;
}

pub loop-p-preserved : goal.loop-p-preserved
loop-p-preserved g c =
    let l = c.loop-p in
    record {
      run = run_more c.args.para.now c.args.start l.p c.args.level.now c.level_at.result c.args.levels.now l.levels (omega (arith, l.auto.p))
          (omega (arith, c.loop-p-test.true, l.auto.levels, c.requires.levels, c.requires.within)) c.level_at.ensures l.invariant.run;
      steps = omega (arith, l.invariant.steps, c.tick.ensures);
    }

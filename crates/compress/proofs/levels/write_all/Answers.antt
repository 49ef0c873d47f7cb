use Rattle.std.proofs.Common.{arith}
use Rattle.compress.proofs.Runs.{run_none, run_more, remains}
use Rattle.compress.proofs.levels.write_all.Goals as goal

pub loop-p-init : goal.loop-p-init
loop-p-init g c = record {
  run = λ us all n. run_none us c.args.start c.args.level.now c.args.levels.now;
  steps = omega arith;
}

pub loop-p-preserved : goal.loop-p-preserved
loop-p-preserved g c =
    let l = c.loop-p in
    record {
      run = λ us all n. run_more us c.args.start l.p c.args.level.now c.args.level.now c.args.levels.now l.levels (omega (arith, l.auto.p))
          (omega (arith, c.loop-p-test.true, l.auto.levels, c.requires.within))
          (remains us l.p c.args.level.now all (omega (arith, c.loop-p-test.true, c.requires.within))) (l.invariant.run us all n);
      steps = omega (arith, l.invariant.steps, c.tick.ensures);
    }

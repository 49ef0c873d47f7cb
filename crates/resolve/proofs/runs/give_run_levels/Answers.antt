use Rattle.std.proofs.Common.{arith, Some}
use Rattle.resolve.proofs.Along.{along_none, all_of_none, all_more_written, along_next}
use Rattle.resolve.proofs.runs.give_run_levels.Goals as goal

pub loop-k-init : goal.loop-k-init
loop-k-init g c = record {
  run = all_of_none c.requires.start;
  classes = along_none c.args.positions.now c.args.start c.args.resolution.made c.args.classes.now;
  levels = along_none c.args.positions.now c.args.start (Some c.args.resolution.level) c.args.levels.now;
  steps = omega arith;
}

pub loop-k-preserved : goal.loop-k-preserved
loop-k-preserved g c =
    let l = c.loop-k in
    record {
      run = all_more_written _ c.requires.positions l.invariant.classes l.invariant.run (omega arith)
          (c.is_same.ensures c.if-is_same.true);
      classes = along_next _ _ _ l.invariant.run.from_start l.invariant.classes;
      levels = along_next _ _ _ l.invariant.run.from_start l.invariant.levels;
      steps = omega (arith, c.tick.ensures, l.invariant.steps);
    }

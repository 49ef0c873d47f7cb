use Rattle.std.proofs.Common.{arith}
use Rattle.lines.proofs.LevelBlocks.{level_of_both, level_of_none}
use Rattle.lines.proofs.runs.pass_eights.Goals as goal

pub loop-position-init : goal.loop-position-init
loop-position-init g c =
    record {
      later = omega arith;
      within = omega (arith, c.requires.order);
      uniform = level_of_none c.args.levels.now c.args.start c.args.level;
      steps = omega arith;
    }

pub loop-position-preserved : goal.loop-position-preserved
loop-position-preserved g c =
    let l = c.loop-position in
    record {
      later = omega (arith, l.invariant.later);
      within = omega (arith, l.invariant.within);
      uniform = level_of_both c.args.levels.now c.args.start l.position _ c.args.level l.invariant.uniform
          (c.has_other_in_eight.ensures.same c.if-not-has_other_in_eight.true);
      steps = omega (arith, c.add.ensures, l.invariant.steps);
    }

use Rattle.std.proofs.Common.{arith, Some, sym, ◌∙◌}
use Rattle.resolve.proofs.Along.{along_none, all_of_none, all_more_written, along_next}
use Rattle.resolve.proofs.runs.give_direction.Goals as goal

pub loop-k-init : goal.loop-k-init
loop-k-init g c = record {
  neutral_or = all_of_none c.requires.start;
  classes = along_none c.args.positions.now c.args.start c.args.resolution.made c.args.classes.now;
  levels = along_none c.args.positions.now c.args.start (Some c.args.resolution.level) c.args.levels.now;
  steps = omega arith;
}

pub loop-k-preserved : goal.loop-k-preserved
loop-k-preserved g c =
    let l = c.loop-k in
    record {
      neutral_or = all_more_written _ c.requires.positions l.invariant.classes l.invariant.neutral_or (omega arith)
          (sym (c.neutral_or-neutral_or.ensures _) ∙ sym c.holds.ensures ∙ c.if-holds.true);
      classes = along_next _ _ _ l.invariant.neutral_or.from_start l.invariant.classes;
      levels = along_next _ _ _ l.invariant.neutral_or.from_start l.invariant.levels;
      steps = omega (arith, c.tick.ensures, l.invariant.steps);
    }

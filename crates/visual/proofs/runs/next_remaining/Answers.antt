use Rattle.std.proofs.Common.{◌∙◌, arith}
use Rattle.std.proofs.lemmas.Grind.{common_steps}
use Rattle.visual.proofs.EffectiveLevels.{next-removed}
use Rattle.visual.proofs.runs.next_remaining.Goals as goal

pub loop-next-preserved : goal.loop-next-preserved
loop-next-preserved c =
    c.loop-next.invariant ∙
    next-removed c.args.levels.now c.args.end c.loop-next.next c.loop-next-test.true (grind (arith, common_steps))

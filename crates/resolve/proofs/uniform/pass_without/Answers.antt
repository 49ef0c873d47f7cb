use Rattle.std.proofs.Common.{arith, sym, ◌∙◌}
use Rattle.resolve.proofs.Along.{all_more}
use Rattle.resolve.proofs.uniform.pass_without.Goals as goal

pub loop-k-preserved : goal.loop-k-preserved
loop-k-preserved g c =
    let l = c.loop-k in
    record {
      without = all_more l.invariant.without (omega arith) (sym c.holds.ensures ∙ c.if-not-holds.true);
      steps = omega (arith, c.tick.ensures, l.invariant.steps);
    }

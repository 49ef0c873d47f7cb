use Rattle.std.proofs.Common.{arith, sym, ◌∙◌}
use Rattle.resolve.proofs.Along.{all_of_none}
use Rattle.resolve.proofs.UniformSequences.{without_four}
use Rattle.resolve.proofs.uniform.pass_fours.Goals as goal

pub loop-k-init : goal.loop-k-init
loop-k-init g c = record { without = all_of_none (omega arith); steps = omega arith }

pub loop-k-preserved : goal.loop-k-preserved
loop-k-preserved g c =
    let l = c.loop-k in
    record {
      without =
          without_four c.args.set c.args.positions.now l.k c.args.classes.now l.invariant.without (omega arith)
          (sym c.holds_one_of_four.ensures ∙ c.if-not-holds_one_of_four.true);
      steps = omega (arith, c.add.ensures, l.invariant.steps);
    }

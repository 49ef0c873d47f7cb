use Rattle.std.proofs.Common.{arith, sym, ◌∙◌}
use Rattle.resolve.proofs.Along.{all_of_none, all_more}
use Rattle.resolve.proofs.runs.pass_over.Goals as goal

pub loop-k-init : goal.loop-k-init
loop-k-init g c = record { passed = all_of_none c.requires.start; steps = omega arith }

pub loop-k-preserved : goal.loop-k-preserved
loop-k-preserved g c =
    let l = c.loop-k in
    record {
      passed = all_more l.invariant.passed (omega arith) (sym (c.passed-passed.ensures _) ∙ sym c.holds.ensures ∙
          c.if-holds.true);
      steps = omega (arith, c.tick.ensures, l.invariant.steps);
    }

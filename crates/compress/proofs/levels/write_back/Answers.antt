use Rattle.std.proofs.Common.{arith, ap, refl, sym, ◌∙◌, ◌+◌}
use Rattle.compress.proofs.Runs.{max-second, run_none, run_joined}
use Rattle.compress.proofs.levels.write_back.Goals as goal

pub loop-p-init : goal.loop-p-init
loop-p-init g c = record {
  lowest = c.requires.lowest;
  within = omega arith;
  run = λ us all n. run_none us c.args.end c.args.level.now c.args.levels.now;
  steps = refl;
}

pub loop-p-preserved : goal.loop-p-preserved
loop-p-preserved g c =
    let l = c.loop-p in
    let w = c.write_eight-p.ensures in
    record {
      lowest = omega (arith, c.if-p-lowest-ge-BLOCK.true, w.first);
      within = omega (arith, l.invariant.within, w.first);
      run = λ us all n.
          run_joined us c.write_eight-p.result l.p c.args.end c.args.level.now c.args.levels.now l.levels c.write_eight-p.new.levels (omega (arith, w.first))
          l.invariant.within (l.invariant.run us all n) (w.run us all (omega (arith, n, l.auto.levels)));
      steps = w.steps ∙ ap (λ e. l.steps + e) (sym (max-second c.args.start l.p (omega (arith, c.loop-p-test.true)))) ∙ l.invariant.steps;
    }

use Rattle.std.proofs.Common.{arith, None, ◌-◌, ◌∙◌, ◌≡◌, subst}
use Rattle.std.proofs.lemmas.List.{get_or_default}
use Rattle.compress.proofs.Placing.{IsSpread, starts_above, starts_below, spread_none, spread_one, spread_all, spread_later}
use Rattle.compress.proofs.levels.spread_remaining.Goals as goal

pub loop-k-init : goal.loop-k-init
loop-k-init g c = record {
  spread = spread_none c.args.para.now c.args.starts.now c.args.few.chosen c.args.few.end c.args.levels.now c.requires.laid;
  steps = omega arith;
}

pub write_run_remaining-requires-clause-some : goal.write_run_remaining-requires-clause-some
write_run_remaining-requires-clause-some g c =
    let below = starts_below c.args.para.now c.args.starts.now c.args.few.chosen c.args.few.end c.args.levels.now c.loop-k.levels c.loop-k.end c.loop-k.k c.loop-k-test.true
    c.loop-k.invariant.spread in
    omega (arith, below, c.start_of-start.ensures)

pub loop-k-preserved : goal.loop-k-preserved
loop-k-preserved g c =
    let w = c.write_run_remaining.ensures in
    let low = starts_above c.args.para.now c.args.starts.now c.args.few.chosen c.args.few.end c.args.levels.now c.loop-k.levels c.loop-k.end c.loop-k.k c.loop-k-test.true
    c.loop-k.invariant.spread in
    record {
      spread = spread_one c.args.para.now c.args.starts.now c.args.few.chosen c.args.few.end c.args.levels.now c.loop-k.levels c.write_run_remaining.new.levels c.loop-k.end
          c.start_of-start.result c.loop-k.k c.index-levels-k.result c.loop-k-test.true c.loop-k.invariant.spread c.start_of-start.ensures
          (c.index-levels-k.is
          ∙ get_or_default c.loop-k.levels (c.loop-k.k - 1) c.index-levels-k.result None
          (omega (arith, c.loop-k-test.true, c.loop-k.auto, c.requires.laid.within, c.requires.levels)))
          w.run.inside (λ p lt. w.run.below p (omega (arith, lt, low, c.start_of-start.ensures))) w.run.above;
      steps = omega (arith, c.loop-k.invariant.steps, w.steps);
    }

pub returns-clause-written : goal.returns-clause-written
returns-clause-written g c =
    let w = c.write_remaining.ensures in
    let run = w.run in
    let none : c.loop-k.k ≡ 0 = omega (arith, c.loop-k-test.false) in
    let s = subst (λ k. IsSpread c.args.para.now c.args.starts.now c.args.few.chosen c.args.few.end c.args.levels.now c.loop-k.levels c.loop-k.end k) none
    c.loop-k.invariant.spread in
    spread_all c.args.para.now c.args.starts.now c.args.few.chosen c.args.few.end c.args.levels.now c.loop-k.levels c.write_remaining.new.levels c.loop-k.end s run.inside run.above

pub returns-clause-unchanged : goal.returns-clause-unchanged
returns-clause-unchanged g c =
    let w = c.write_remaining.ensures in
    let run = w.run in
    let none : c.loop-k.k ≡ 0 = omega (arith, c.loop-k-test.false) in
    let s = subst (λ k. IsSpread c.args.para.now c.args.starts.now c.args.few.chosen c.args.few.end c.args.levels.now c.loop-k.levels c.loop-k.end k) none
    c.loop-k.invariant.spread in
    spread_later c.args.para.now c.args.starts.now c.args.few.chosen c.args.few.end c.args.levels.now c.loop-k.levels c.write_remaining.new.levels c.loop-k.end s run.above

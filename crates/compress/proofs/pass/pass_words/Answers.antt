use Rattle.std.proofs.Common.{arith, suc, refl, List}
use Rattle.units.specs.declared.bracket.Unit.{Unit as BidiUnit}
use Rattle.compress.specs.PassedSets.{has}
use Rattle.compress.proofs.Counting.{at}
use Rattle.compress.proofs.Passing.{laid_past_run, run_leads}
use Rattle.compress.proofs.pass.pass_words.Goals as goal

pub loop-p-init : goal.loop-p-init
loop-p-init g c =
    let us : List BidiUnit = c.args.para.now in
    let run = c.pass_singly-p.ensures in
    let after = c.past_neutrals-next.ensures in
    record {
      from_start = run.from_start;
      later = after.later;
      within = after.within;
      leads = λ d chosen starts k other e has_set laid way.
          after.leads d chosen starts k other e
          (laid_past_run d us chosen starts (suc k) c.args.start c.pass_singly-p.result (omega arith) run.from_start run.within laid)
          (run_leads d us chosen starts k c.args.start c.pass_singly-p.result (at chosen k) (has c.args.set) refl
          has_set run.from_start run.within run.passed run.bare laid way);
      stopped = run.stopped;
      steps = refl;
    }

pub loop-p-preserved : goal.loop-p-preserved
loop-p-preserved g c =
    let us : List BidiUnit = c.args.para.now in
    let l = c.loop-p in
    let run = c.pass_singly-p-in-loop-p.ensures in
    let end = c.pass_singly-p-in-loop-p.result in
    let after = c.past_neutrals-next-in-loop-p.ensures in
    record {
      from_start = omega (arith, l.invariant.from_start, l.invariant.later, run.from_start);
      later = after.later;
      within = after.within;
      leads = λ d chosen starts k other e has_set laid way.
          let here = laid_past_run d us chosen starts (suc k) c.args.start l.next (omega arith) (omega (arith, l.invariant.from_start, l.invariant.later)) l.invariant.within laid in
          let there = laid_past_run d us chosen starts (suc k) l.next end (omega arith) run.from_start run.within here in
          after.leads d chosen starts k other e there
          (run_leads d us chosen starts k l.next end (at chosen k) (has c.args.set) refl
          has_set run.from_start run.within run.passed run.bare here
          (l.invariant.leads d chosen starts k other e has_set laid way));
      stopped = run.stopped;
      steps = omega (arith, l.invariant.steps, l.invariant.later, run.steps, c.add.ensures);
    }

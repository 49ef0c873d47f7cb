use Rattle.std.proofs.Common.{arith, inl, inr}
use Rattle.std.proofs.lemmas.Bool.{cases_eq}
use Rattle.sequences.proofs.Blocks.{joined_more, not_free}
use Rattle.sequences.proofs.heads.pass_joined.Goals as goal

pub loop-p-init : goal.loop-p-init
loop-p-init g c =
    let passed = c.pass_eights-p.ensures in
    record {
      later = omega (arith, passed.later);
      within = passed.within;
      passed = λ q low high. elim (cases_eq q c.args.from) [
        | inl same ↦ rw same (not_free _ _ c.is_free.ensures c.if-is_free.false)
        | inr other ↦ passed.passed q (omega arith) high
      ];
      steps = omega (arith, c.tick.ensures, passed.steps);
    }

pub loop-p-preserved : goal.loop-p-preserved
loop-p-preserved g c =
    let l = c.loop-p in
    record {
      later = omega (arith, l.invariant.later);
      within = omega arith;
      passed = joined_more c.args.joined.now c.args.from l.p l.invariant.passed
          (not_free _ _ c.is_free-in-loop-p.ensures c.if-not-is_free.true);
      steps = omega (arith, c.tick-in-loop-p.ensures, l.invariant.steps);
    }

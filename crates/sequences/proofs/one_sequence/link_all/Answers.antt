use Rattle.std.proofs.Common.{arith, subst, sym, ℕ}
use Rattle.sequences.specs.Links.{ArePositions}
use Rattle.sequences.proofs.Remaining.{linked_more}
use Rattle.sequences.proofs.one_sequence.link_all.Goals as goal

pub loop-k-preserved : goal.loop-k-preserved
loop-k-preserved g c =
    let P : ℕ → Type 0 = λ n. ArePositions c.args.positions.now n in
    record {
      linked = linked_more c.args.positions.now c.loop-k.k c.loop-k.links c.position_after.result
          (subst P (sym c.loop-k.auto.links) c.requires.rise) c.loop-k-test.true c.position_after.ensures
          c.loop-k.invariant.linked;
      steps = omega arith;
    }

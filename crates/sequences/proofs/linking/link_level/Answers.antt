use Rattle.std.proofs.Common.{◌≡◌, ◌+◌, ◌-◌, ◌∙◌, ℕ, arith, sym}
use Rattle.sequences.proofs.Backward.{level_back}
use Rattle.sequences.proofs.linking.link_level.Goals as goal

pub loop-p-init : goal.loop-p-init
loop-p-init g c =
    let w = c.link_eights-p.ensures in
    record {
      before = w.before;
      linked = (w.follow, w.end, w.level);
      steps = w.steps;
    }

pub loop-p-preserved : goal.loop-p-preserved
loop-p-preserved g c =
    let t = c.args.t.now in
    let l = c.loop-p in
    let p : ℕ = l.p - 1 in
    let one : l.p ≡ p + 1 = omega arith in
    let one_level = sym c.is_at.ensures ∙ c.if-is_at.true in
    let from = c.args.from.now in
    record {
      before = omega arith;
      linked = rw c.some.ensures (level_back t p l.p one from.level l.links l.ends l.joined from.end c.requires.leveled
          (omega arith) l.invariant.linked one_level);
      steps = omega (arith, c.tick.ensures, l.invariant.steps);
    }

use Rattle.std.proofs.Common.{◌≡◌, ◌+◌, ◌-◌, ℕ, true, false, arith, subst}
use Rattle.sequences.specs.Blocks.{IsWritten}
use Rattle.sequences.proofs.Backward.{IsLinkedBackTo, level_back_to}
use Rattle.sequences.proofs.linking.link_eights.Goals as goal

pub loop-p-init : goal.loop-p-init
loop-p-init g c = record {
  before = omega arith;
  linked = (c.requires.follow, c.requires.end, c.requires.level);
  steps = omega arith;
}

pub loop-p-preserved : goal.loop-p-preserved
loop-p-preserved g c =
    let t = c.args.t.now in
    let l = c.loop-p in
    let from = c.args.from.now in
    let first : ℕ = l.p - 8 in
    let whole : l.p ≡ first + 8 = omega arith in
    let W : ℕ → Type 0 = λ p. IsLinkedBackTo t p from.level from.end l.links l.ends l.joined in
    let last : first + 1 + 8 ≡ first + 8 + 1 = omega arith in
    let M : ℕ → Type 0 = λ p. IsWritten false (λ q. true) (first + 1) p l.joined c.link_eight.new.joined in
    let written = c.link_eight.ensures in
    record {
      before = omega arith;
      linked = level_back_to t c.requires.leveled first (first + 8) from.level from.end (omega arith)
          (c.are_eight_at.ensures c.if-are_eight_at.true) l.links c.link_eight.new.links l.ends c.link_eight.new.ends
          l.joined c.link_eight.new.joined written.links written.ends (subst M last written.marks)
          c.link_eight.auto.links c.link_eight.auto.ends c.link_eight.auto.joined (subst W whole l.invariant.linked)
          (omega arith);
      steps = omega (arith, written.steps, l.invariant.steps);
    }

use Rattle.std.proofs.Common.{◌≡◌, ℕ, arith, subst}
use Rattle.ucdfiles.proofs.Staging.{AreStagesUpTo, one_more, all-stages}
use Rattle.ucdfiles.proofs.two_stage.TwoStage.new.Goals as goal

pub loop-n-preserved : goal.loop-n-preserved
loop-n-preserved g c = (
  rw c.in_ok-push.ensures.items
      (one_more c.loop-n.n c.args.spans.now c.args.defaults.now c.args.none c.loop-n.numbers.items c.loop-n.values.items
      c.in_ok-number.ensures.unchanged.0 c.number_of.new.values.items c.fill_block.new.block c.in_ok-number.number
      c.loop-n.invariant.0 c.in_ok-number.ensures.unchanged.1 c.in_ok-number.ensures.whole c.in_ok-number.ensures.most
      c.in_ok-number.ensures.within c.in_ok-number.ensures.block c.fill_block.ensures.values),
  c.fill_block.ensures.len,
)

pub invariant_of-result : goal.invariant_of-result
invariant_of-result g c =
    let all : c.loop-n.n ≡ 8704 = omega arith in
    let P : ℕ → Type 0 =
    λ n. AreStagesUpTo n c.args.spans.now c.args.defaults.now c.args.none c.loop-n.numbers.items
    c.loop-n.values.items in
    all-stages c.args.spans.now c.args.defaults.now c.args.none c.loop-n.numbers.items c.loop-n.values.items
    (subst P all c.loop-n.invariant.0)

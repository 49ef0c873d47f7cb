use Rattle.std.proofs.Common.{arith, get_or, ◌≡◌, ◌≢◌, Some, ◌∙◌}
use Rattle.report.specs.Comparing.{remaining_order}
use Rattle.report.proofs.LineOrders.{agrees-on, differs-on, is-next, is-no-next, line-passed, none-passed, taken-length}
use Rattle.report.proofs.comparing.differing_position.Goals as goal

pub loop-i-init : goal.loop-i-init
loop-i-init c = record {
  fits = omega arith;
  search =
      λ more at. none-passed c.args.line.now (remaining_order c.args.claimed.now) more at;
}

pub returns-then-ne : goal.returns-then-ne
returns-then-ne c =
    let other : c.next.result ≢ Some (get_or c.args.line.now c.loop-i.i 0) =
    is-no-next c.next.result _ c.ne.result c.ne.ensures c.if-ne.true in (
      omega (arith, c.loop-i.invariant.fits),
      λ more at. c.loop-i.invariant.search more at ∙
          differs-on c.args.line.now c.loop-i.i c.loop-i-test.true more at _ _ c.next.result c.next.ensures.steps other,
    )

pub loop-i-preserved : goal.loop-i-preserved
loop-i-preserved c =
    let same : c.next.result ≡ Some (get_or c.args.line.now c.loop-i.i 0) =
    is-next c.next.result _ c.ne.result c.ne.ensures c.if-ne.false in
    record {
      fits = omega (arith, c.loop-i.invariant.fits, taken-length _ _ c.next.result _ c.next.ensures.steps same);
      search = λ more at. c.loop-i.invariant.search more at ∙
          agrees-on c.args.line.now c.loop-i.i c.loop-i-test.true more at _ _ c.next.result c.next.ensures.steps same;
    }

pub returns : goal.returns
returns c = line-passed c.args.line.now _ _ c.loop-i.i (omega arith)
    (omega arith) c.loop-i.invariant.fits c.loop-i.invariant.search

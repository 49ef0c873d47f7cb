use Rattle.std.proofs.lemmas.List.{drop_more}
use Rattle.printing.proofs.Passing.{one_more_passed}
use Rattle.explain.proofs.foot.print_order.Goals as goal

pub loop-position-preserved : goal.loop-position-preserved
loop-position-preserved g c =
    one_more_passed _ _ _ _ _ _ _ _
    (drop_more c.args.order.now c.loop-position.position-index 0 c.loop-position-test.true)
    c.loop-position.invariant c.in_ok-write-2.ensures.bytes

use Rattle.std.proofs.Common.{arith}
use Rattle.printing.proofs.Printing.{one_more_printed}
use Rattle.explain.proofs.Finished.{all_printed}
use Rattle.explain.proofs.position.print_changes.Goals as goal

pub loop-k-preserved : goal.loop-k-preserved
loop-k-preserved g c =
    let line = rw c.class_cell-cell.ensures at c.in_ok-write.ensures.bytes in
    one_more_printed _ _ _ _ _ _ (omega arith) c.loop-k.invariant line

pub returns : goal.returns
returns g c = all_printed _ _ _ _ _ _ (omega arith) c.loop-k.invariant

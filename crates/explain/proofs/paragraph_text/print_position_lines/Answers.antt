use Rattle.std.proofs.Common.{arith}
use Rattle.printing.proofs.Printing.{one_more_printed}
use Rattle.explain.proofs.Finished.{all_printed}
use Rattle.explain.proofs.paragraph_text.print_position_lines.Goals as goal

pub loop-p-preserved : goal.loop-p-preserved
loop-p-preserved g c = one_more_printed _ _ _ _ _ _ (omega arith) c.loop-p.invariant c.in_ok-print_position_at.ensures

pub returns : goal.returns
returns g c = all_printed _ _ _ _ _ _ (omega arith) c.loop-p.invariant

use Rattle.std.proofs.Common.{◌≤◌, ◌-◌, length, take}
use Rattle.for_c.specs.ReportCalls.{Takes}
use Rattle.for_c.proofs.report_for_c.ReportForC.take_piece.Given as goal

abbrev pub invariant-loop-at : goal.invariant-loop-at
invariant-loop-at l = record {
  within : l.at ≤ length l.piece;
  takes : Takes l.fn.self l.self (take l.at l.piece);
}

abbrev pub decreases-loop-at : goal.decreases-loop-at
decreases-loop-at l = length l.piece - l.at

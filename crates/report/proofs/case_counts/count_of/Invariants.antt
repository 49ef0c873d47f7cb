use Rattle.std.proofs.Common.{◌≡◌, ◌≤◌, take}
use Rattle.std.specs.List.{count_by}
use Rattle.report.specs.ReportCounts.{is_of}
use Rattle.report.proofs.case_counts.count_of.Given as goal

abbrev pub invariant-loop-i : goal.invariant-loop-i
invariant-loop-i l = record {
  counted : l.count ≡ count_by (is_of l.differs) (take l.i l.found);
  few : l.count ≤ l.i;
}

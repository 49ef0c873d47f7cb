use Rattle.std.proofs.Common.{◌≡◌, ◌≤◌, ◌++◌, drop, length, vec_capacity}
use Rattle.std.specs.Prelude.{IfSome}
use Rattle.lines.specs.Scratches.{room_of}
use Rattle.bidtests.specs.LaidOut.{IsLaidOut}
use Rattle.bidtests.specs.Readings.{expected_of}
use Rattle.report.specs.WrongCases.{wrong_cases_under}
use Rattle.report.proofs.row_cases.find_wrong_cases.Given as goal

abbrev pub invariant-loop-direction : goal.invariant-loop-direction
invariant-loop-direction l = record {
  rest : wrong_cases_under l.terms l.line (expected_of l.expected) l.expected.directions.now
      ≡ l.found.items ++ wrong_cases_under l.terms l.line (expected_of l.expected)
      (drop l.direction-index l.expected.directions.now);
  few : length l.found.items ≤ l.direction-index;
  capacity : vec_capacity l.found ≡ vec_capacity l.fn.found;
  laid_out : IfSome l.laid_out (IsLaidOut l.terms.limits l.expected.text.now l.scratch);
  room : room_of l.scratch ≡ room_of l.fn.scratch;
}

use Rattle.std.proofs.Common.{◌≡◌, drop}
use Rattle.std.specs.Prelude.{IfSome}
use Rattle.lines.specs.Scratches.{room_of}
use Rattle.bidtests.specs.Verdicts.{wrong_case}
use Rattle.bidtests.specs.Comparisons.{HasNoWrongPlace}
use Rattle.bidtests.specs.Readings.{expected_of}
use Rattle.bidtests.proofs.compare.judge_expected.Given as goal

abbrev pub invariant-loop-direction : goal.invariant-loop-direction
invariant-loop-direction l = record {
  rest : wrong_case l.limits (expected_of l.expected) l.expected.directions.now ≡
      wrong_case l.limits (expected_of l.expected) (drop l.direction-index l.expected.directions.now);
  right : IfSome l.right (HasNoWrongPlace l.limits (expected_of l.expected));
  room : room_of l.scratch ≡ room_of l.fn.scratch;
}

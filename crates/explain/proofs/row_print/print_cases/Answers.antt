use Rattle.std.proofs.Common.{arith}
use Rattle.std.proofs.lemmas.List.{drop_more}
use Rattle.printing.proofs.Fronts.{fault_along, front_of_passed, leaves_on}
use Rattle.printing.proofs.Passing.{one_more_passed}
use Rattle.explain.proofs.row_print.print_cases.Goals as goal

pub loop-direction-preserved : goal.loop-direction-preserved
loop-direction-preserved g c = record {
  passed = one_more_passed _ _ _ _ _ _ _ _
      (drop_more c.args.directions.now c.loop-direction.direction-index _ c.loop-direction-test.true)
      c.loop-direction.invariant.passed c.in_ok-print_case.ensures.text;
  room = omega (arith, c.loop-direction.invariant.room, c.in_ok-print_case.ensures.room);
}

pub returns-in_err-print_case-clause-fault : goal.returns-in_err-print_case-clause-fault
returns-in_err-print_case-clause-fault g c =
    let remaining = drop_more c.args.directions.now c.loop-direction.direction-index _ c.loop-direction-test.true in
    let passed = c.loop-direction.invariant.passed in
    leaves_on _ _ _ _ _ c.from_residual.ensures.1
    (fault_along _ _ _ _ _ _ _ (λ v.
    front_of_passed _ _ _ _ _ _ _ _ remaining passed v) c.in_err-print_case.ensures.fault)

use Rattle.std.proofs.Common.{◌≡◌, Result, Ok, Err, IsErrAnd, ◌∙◌}
use Rattle.printing.specs.declared.fault.PrintFault.TheVariants.{Write}
use Rattle.requests.specs.FaultText.{print_fault}
use Rattle.requests.specs.declared.fault.Fault.{Fault}
use Rattle.requests.specs.declared.fault.Fault.TheVariants.{CannotWrite}
use Rattle.requests.specs.declared.outcome.Outcome.{Outcome}
use Rattle.requests.proofs.FirstFaults.{request_done, writing_fails}
use Rattle.requests.proofs.Rejected.{leaves_written}
use Rattle.requests.proofs.Reported.{steps_fail}
use Rattle.requests.proofs.run.perform_and_flush.Goals as goal

passed_on : (r : Result Outcome Fault) (e : Fault) → IsErrAnd r (λ given. given ≡ e) → e ≡ CannotWrite
    → IsErrAnd r (λ given. given ≡ print_fault Write)
passed_on (Ok outcome) e same is = absurd same
passed_on (Err given) e same is = same ∙ is

-- everything was read and printed before the flush
pub returns-in_err-flush-clause-fault : goal.returns-in_err-flush-clause-fault
returns-in_err-flush-clause-fault g c =
    steps_fail _ _ _ _ _ (writing_fails _ _ _ _ _ Write (request_done _ _ _ _ _ c.in_ok-outcome.ensures.done)
    (passed_on _ _ c.from_residual-in_err-flush.ensures.1 c.in_err-flush.ensures.fault))

pub returns-in_err-flush-clause-memory : goal.returns-in_err-flush-clause-memory
returns-in_err-flush-clause-memory g c =
    leaves_written _ _ _ _ _ c.from_residual-in_err-flush.ensures.1 c.in_err-flush.ensures.fault

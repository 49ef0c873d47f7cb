use Rattle.for_c.proofs.CasesReturned.{returns-all}
use Rattle.for_c.proofs.theorems.wrong_cases_are_returned.Goals as goal

pub returns : goal.returns
returns c = returns-all

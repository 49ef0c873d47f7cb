use Rattle.printing.proofs.Fronts.{front_nothing, leaves_on}
use Rattle.explain.proofs.Finished.{OnErr-leaves}
use Rattle.explain.proofs.print.explain_paragraph.Goals as goal

pub print_paragraph-requires-clause-inside : goal.print_paragraph-requires-clause-inside
print_paragraph-requires-clause-inside g c = c.in_ok-columns.ensures.inside

pub returns-in_err-columns-clause-fault : goal.returns-in_err-columns-clause-fault
returns-in_err-columns-clause-fault g c = leaves_on _ _ _ _ _ c.from_residual.ensures.1 (front_nothing _ _)

pub returns-clause-fault : goal.returns-clause-fault
returns-clause-fault g c = OnErr-leaves _ _ _ _ _ c.written.ensures.done c.written.ensures.fault

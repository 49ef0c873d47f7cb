use Rattle.std.proofs.Common.{sym}
use Rattle.printing.proofs.Fronts.{front_nothing, leaves_on}
use Rattle.explain.proofs.print.print_explained.Goals as goal

pub returns-clause-text : goal.returns-clause-text
returns-clause-text g c = rw (sym c.in_ok-units.ensures, sym c.deref.ensures.value) c.print_units.ensures.text

pub returns-clause-fault : goal.returns-clause-fault
returns-clause-fault g c = rw (sym c.in_ok-units.ensures, sym c.deref.ensures.value) c.print_units.ensures.fault

pub returns-in_err-units-clause-fault : goal.returns-in_err-units-clause-fault
returns-in_err-units-clause-fault g c = leaves_on _ _ _ _ _ c.from_residual.ensures.1 (front_nothing _ _)

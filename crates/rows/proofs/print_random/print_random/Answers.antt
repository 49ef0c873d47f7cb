use Rattle.rows.proofs.RowTextsOf.{drawn-right}
use Rattle.rows.proofs.print_random.print_random.Goals as goal

pub returns-in_err-room-clause-right : goal.returns-in_err-room-clause-right
returns-in_err-room-clause-right g c = drawn-right _ _ _ c.greatest.ensures.drawn

pub returns-in_err-row-clause-right : goal.returns-in_err-row-clause-right
returns-in_err-row-clause-right g c = drawn-right _ _ _ c.greatest.ensures.drawn

pub returns-clause-right : goal.returns-clause-right
returns-clause-right g c = drawn-right _ _ _ c.greatest.ensures.drawn

use Rattle.rows.proofs.RowTextsOf.{rows-right}
use Rattle.rows.proofs.print.print_exhaustive.Goals as goal

pub returns-in_err-room-clause-right : goal.returns-in_err-room-clause-right
returns-in_err-room-clause-right g c = rows-right _ _ _ c.greatest.ensures.counted

pub returns-in_err-row-clause-right : goal.returns-in_err-row-clause-right
returns-in_err-row-clause-right g c = rows-right _ _ _ c.greatest.ensures.counted

pub returns-clause-right : goal.returns-clause-right
returns-clause-right g c = rows-right _ _ _ c.greatest.ensures.counted

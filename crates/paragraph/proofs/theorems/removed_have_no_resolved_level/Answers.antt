use Rattle.paragraph.proofs.Unresolved.{resolved_none}
use Rattle.paragraph.proofs.theorems.removed_have_no_resolved_level.Goals as goal

pub returns : goal.returns
returns c = λ limits us allowed only para_level low p within.
    resolved_none limits allowed us para_level low only p within

use Rattle.lines.proofs.RemovedLevels.{none_in_layout}
use Rattle.lines.proofs.theorems.removed_have_no_level.Goals as goal

pub returns : goal.returns
returns c = λ limits text allowed direction breaks p within.
    none_in_layout limits allowed direction text breaks p within

use Rattle.compress.proofs.Few.{resolves_by_few}
use Rattle.compress.proofs.theorems.few_units_suffice.Goals as goal

pub returns : goal.returns
returns c = resolves_by_few

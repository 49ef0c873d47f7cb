use Rattle.resolve.proofs.Nesting.{pairs_nest as lemma}
use Rattle.resolve.proofs.theorems.pairs_nest.Goals as goal

pub returns : goal.returns
returns c = lemma

use Rattle.resolve.proofs.Nesting.{pairs_are_ordered as lemma}
use Rattle.resolve.proofs.theorems.pairs_are_ordered.Goals as goal

pub returns : goal.returns
returns c = lemma

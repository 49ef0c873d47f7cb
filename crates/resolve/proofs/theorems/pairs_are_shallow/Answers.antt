use Rattle.resolve.proofs.Depth.{pairs_are_shallow as lemma}
use Rattle.resolve.proofs.theorems.pairs_are_shallow.Goals as goal

pub returns : goal.returns
returns c = lemma

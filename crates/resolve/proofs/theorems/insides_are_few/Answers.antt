use Rattle.resolve.proofs.Depth.{insides_are_few as lemma, insides_are_few_by_opener}
use Rattle.resolve.proofs.theorems.insides_are_few.Goals as goal

pub returns : goal.returns
returns c = record { by_pair = lemma; by_opener = insides_are_few_by_opener }

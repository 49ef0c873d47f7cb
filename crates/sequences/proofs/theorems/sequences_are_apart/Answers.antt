use Rattle.sequences.proofs.Apart.{sequences_apart}
use Rattle.sequences.proofs.theorems.sequences_are_apart.Goals as goal

pub returns : goal.returns
returns c = λ t leveled nested j k s other first later below p.
    sequences_apart t j k p s other leveled nested first later below

use Rattle.explicit.proofs.Staying.{levels_of_sequence-uniform}
use Rattle.explicit.proofs.flat_theorems.uniform_sequences.Goals as goal

pub returns : goal.returns
returns c = levels_of_sequence-uniform

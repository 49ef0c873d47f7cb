use Rattle.explicit.proofs.Staying.{resolved_levels-uniform}
use Rattle.explicit.proofs.flat_theorems.uniform_paragraphs.Goals as goal

pub returns : goal.returns
returns c = λ limits us para is. resolved_levels-uniform limits us para is.0 is.1

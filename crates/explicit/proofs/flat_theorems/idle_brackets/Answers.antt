use Rattle.explicit.proofs.Unbracketed.{after_brackets-none}
use Rattle.explicit.proofs.flat_theorems.idle_brackets.Goals as goal

pub returns : goal.returns
returns c = λ most_open s us none before weak. after_brackets-none most_open s us before weak none

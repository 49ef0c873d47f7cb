use Rattle.std.proofs.Common.{◌∙◌, ap, reverse}
use Rattle.std.proofs.lemmas.List.{reverse-append}
use Rattle.explicit.proofs.Holders.Open.{holders}
use Rattle.explicit.proofs.LevelsComputed.ExplicitAt.{chain-reversed}
use Rattle.explicit.proofs.Holders.TheTail.{cut_of}
use Rattle.explicit.proofs.theorems.overflow_is_a_tail.Goals as goal

pub returns : goal.returns
returns c = λ depth cs para p. let k = cut_of depth cs para (holders cs p) in
    (k.0, k.1, chain-reversed cs p ∙ ap (λ xs. reverse xs) k.2 ∙ reverse-append k.0 k.1, k.3)

use Rattle.std.proofs.Common.{◌≡◌, sym, ◌∙◌, arith}
use Rattle.explicit.specs.FirstParagraph.{first_length}
use Rattle.explicit.proofs.LevelsComputed.OneCutting.{first_length_at, first_length_nowhere, first_length_within}
use Rattle.explicit.proofs.cutting.first_length.Goals as goal

pub returns-in-Some : goal.returns-in-Some
returns-in-Some c =
    let e : first_length c.args.text.now ≡ _ =
    first_length_at c.args.text.now c.in-Some.last (sym c.first_separator.ensures ∙ c.in-Some.is) in
    record { value = sym e; within = omega (arith, first_length_within c.args.text.now, e) }

pub returns-in-None : goal.returns-in-None
returns-in-None c =
    let e = first_length_nowhere c.args.text.now (sym c.first_separator.ensures ∙ c.in-None.is) in
    record { value = sym e; within = omega arith }

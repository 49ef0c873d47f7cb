use Rattle.std.proofs.Common.{sym, ◌∙◌}
use Rattle.units.specs.Classes.{classes_of}
use Rattle.explicit.proofs.Matched.Stops.{no_formatting_two}
use Rattle.explicit.proofs.isolates.is_formatting_in_two.Goals as goal

pub returns-else-is_formatting_at : goal.returns-else-is_formatting_at
returns-else-is_formatting_at c none =
    no_formatting_two (classes_of c.args.para.now) c.args.p (sym c.is_formatting_at.ensures ∙
    c.if-is_formatting_at.false) (sym c.is_formatting_at-else-is_formatting_at.ensures ∙ none)

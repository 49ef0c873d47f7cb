use Rattle.std.proofs.Common.{refl}
use Rattle.paragraph.proofs.UniformSequences.{has_levels}
use Rattle.paragraph.proofs.found.give_level_if_uniform.Goals as goal

pub returns-clause-levels : goal.returns-clause-levels
returns-clause-levels g c = λ e.
    has_levels c.args.s.now c.args.classes.now c.give_level.new.levels
    (c.if-not-is_uniform.ensures.uniform.0 refl) c.give_level.ensures.levels

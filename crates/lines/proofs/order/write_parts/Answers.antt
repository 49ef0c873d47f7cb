use Rattle.std.proofs.Common.{ap, subst, sym, refl, ◌∙◌}
use Rattle.units.specs.Isolates.{level_of_para}
use Rattle.lines.specs.Spans.{IsSpanAtLevel}
use Rattle.lines.proofs.Uniform.{uniform-falling, uniform-rising}
use Rattle.lines.proofs.order.write_parts.Goals as goal

pub write_parts_rising-requires-clause-level : goal.write_parts_rising-requires-clause-level
write_parts_rising-requires-clause-level g c =
    subst (IsSpanAtLevel c.args.line) (ap level_of_para c.in-Zero.is) c.requires.level

pub write_parts_falling-requires-clause-level : goal.write_parts_falling-requires-clause-level
write_parts_falling-requires-clause-level g c =
    subst (IsSpanAtLevel c.args.line) (ap level_of_para c.in-One.is) c.requires.level

pub returns-in-Zero-clause-order : goal.returns-in-Zero-clause-order
returns-in-Zero-clause-order g c =
    let line = c.args.line in
    c.write_parts_rising.ensures.order
    ∙ sym (uniform-rising line.levels.now line.start line.end 0 line.forward refl
    (subst (IsSpanAtLevel line) (ap level_of_para c.in-Zero.is) c.requires.level))

pub returns-in-One-clause-order : goal.returns-in-One-clause-order
returns-in-One-clause-order g c =
    let line = c.args.line in
    c.write_parts_falling.ensures.order
    ∙ sym (uniform-falling line.levels.now line.start line.end 1 line.forward refl
    (subst (IsSpanAtLevel line) (ap level_of_para c.in-One.is) c.requires.level))

use Rattle.std.proofs.Common.{◌==◌, ap, ◌∙◌}
use Rattle.units.specs.Text.{trimmed}
use Rattle.units.proofs.Cuts.{before_first-none, before_first-some}
use Rattle.units.proofs.text.trim.content.Goals as goal

pub returns-in-None-clause-content : goal.returns-in-None-clause-content
returns-in-None-clause-content c = c.trim.ensures.rest ∙
    ap trimmed (before_first-none (λ b. b == 35) c.args.line.now c.in-None.ensures)

pub returns-in-Some-clause-content : goal.returns-in-Some-clause-content
returns-in-Some-clause-content c = c.trim-in-Some.ensures.rest ∙
    ap trimmed (before_first-some (λ b. b == 35) c.args.line.now c.in-Some.at c.in-Some.ensures)

use Rattle.std.proofs.Common.{subst, List}
use Rattle.units.specs.declared.bracket.Unit.{Unit as BidiUnit}
use Rattle.compress.specs.Laid.{BecomesLetter}
use Rattle.compress.proofs.Between.{number_first}
use Rattle.compress.proofs.pass.past_number.Goals as goal

pub returns-then-is_number_as-clause-leads : goal.returns-then-is_number_as-clause-leads
returns-then-is_number_as-clause-leads c = λ d chosen starts k other e laid way.
    let us : List BidiUnit = c.args.para.now in
    number_first d us chosen starts k c.args.p c.requires other
    (subst (λ t. BecomesLetter t us c.args.p) e (c.is_number_as.ensures c.if-is_number_as.true)) laid way

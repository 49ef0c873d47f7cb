use Rattle.std.proofs.Common.{◌∙◌, ap, arith, sym}
use Rattle.std.specs.Fmt.{decimal}
use Rattle.std.proofs.lemmas.Fmt.{decimal_digit}
use Rattle.units.specs.Isolates.{level_of_para}
use Rattle.rows.proofs.character_text.number_of_para.Goals as goal

pub returns-in-Zero : goal.returns-in-Zero
returns-in-Zero c = sym (ap (λ level. decimal (level_of_para level)) c.in-Zero.is ∙ decimal_digit 0 (omega arith))

pub returns-in-One : goal.returns-in-One
returns-in-One c = sym (ap (λ level. decimal (level_of_para level)) c.in-One.is ∙ decimal_digit 1 (omega arith))

use Rattle.std.proofs.Common.{arith}
use Rattle.units.proofs.Cuts.{fields_of-some}
use Rattle.units.proofs.text.cut.three_fields.Goals as goal

pub returns-in-Some : goal.returns-in-Some
returns-in-Some c = grind (arith, fields_of-some c.in-Some.field-0.now)

use Rattle.std.proofs.Common.{arith}
use Rattle.units.proofs.Cuts.{fields_of-some}
use Rattle.bidtests.proofs.characters_row.fields.Goals as goal

pub returns-in-Some-clause-fields : goal.returns-in-Some-clause-fields
returns-in-Some-clause-fields c = grind (arith, fields_of-some c.in-Some.field-0.now)

use Rattle.std.proofs.Common.{List, arith, subst, sym}
use Rattle.units.specs.Classes.{classes_of}
use Rattle.units.specs.declared.bracket.Unit.{Unit as BidiUnit}
use Rattle.paragraph.specs.ClassSets.{IsSetOf}
use Rattle.paragraph.proofs.Scan.{set_more}
use Rattle.decoding.proofs.utf8.pass_next.Goals as goal

pub returns-clause-classes : goal.returns-clause-classes
returns-clause-classes c =
    let next = c.decode_next-reached in
    let count = c.args.before.reached.characters in
    set_more c.with.result next.new.units count next.result.characters next.ensures.one
    (omega (arith, c.requires.read.few, c.requires.remaining, c.requires.units, next.ensures.units_len))
    (c.with.ensures _ (subst (λ (us : List BidiUnit). IsSetOf c.args.before.classes (classes_of us))
    (sym next.ensures.unchanged) c.requires.classes))

use Rattle.std.proofs.Common.{◌≤◌, ◌∙◌, List, ap, arith, length, map, subst, sym}
use Rattle.std.proofs.lemmas.List.{take_all}
use Rattle.units.specs.Classes.{classes_of}
use Rattle.units.specs.declared.bracket.Unit.{Unit as BidiUnit}
use Rattle.ucdfiles.specs.UnitStages.{unit_by_stages}
use Rattle.paragraph.specs.ClassSets.{IsSetOf}
use Rattle.decoding.proofs.utf8.write_ascii.Goals as goal

pub returns-clause-units : goal.returns-clause-units
returns-clause-units c =
    let new = c.write_four.new.units in
    let long : length new ≤ 16 = omega (
      arith,
      c.write_four.ensures.len,
      c.write_four-twelve.ensures.len,
      c.write_four-eight.ensures.len,
      c.write_four-four.ensures.len,
      c.requires.fits,
    ) in
    sym (take_all 16 new long) ∙ c.write_four.ensures.written
    ∙ ap (map (unit_by_stages c.args.borrowed.now)) (take_all 16 c.args.block.now (omega (arith, c.requires.len)))

pub returns-clause-classes : goal.returns-clause-classes
returns-clause-classes c =
    let new = c.write_four.new.units in
    let long : length new ≤ 16 = omega (
      arith,
      c.write_four.ensures.len,
      c.write_four-twelve.ensures.len,
      c.write_four-eight.ensures.len,
      c.write_four-four.ensures.len,
      c.requires.fits,
    ) in
    subst (λ (us : List BidiUnit). IsSetOf c.write_four.result (classes_of us)) (take_all 16 new long)
    c.write_four.ensures.classes

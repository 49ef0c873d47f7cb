use Rattle.std.proofs.Common.{◌∙◌, ◌+◌, ◌++◌, List, ap, arith, refl, set, subst, sym}
use Rattle.ucdfiles.specs.UnitStages.{UnitStages, unit_by_stages}
use Rattle.decoding.specs.Decoded.{IsWritten}
use Rattle.decoding.specs.Offsets.{Spelled}
use Rattle.decoding.specs.declared.reached.Reached.{Reached}
use Rattle.decoding.proofs.LossyChunks.{replaced_some}
use Rattle.decoding.proofs.Writing.{written_more}
use Rattle.decoding.proofs.lossy.fill_replaced.Goals as goal

pub returns-clause-written : goal.returns-clause-written
returns-clause-written c front w =
    let before = c.args.before in
    let width = c.args.width in
    let after : Reached = record { characters = before.characters + 1; code_units = before.code_units + width } in
    let units = set c.args.units.now before.characters c.unit.result in
    let starts = set c.args.starts.now before.characters before.code_units in
    let is = c.unit.ensures ∙ ap (λ (s : UnitStages). unit_by_stages s 0xFFFD) c.units.ensures in
    subst (λ (xs : List Spelled). IsWritten c.args.tables.now (front ++ xs) after units starts)
    (sym (replaced_some width (omega (arith, c.if-width-eq0.false))))
    (written_more c.args.tables.now front (record {
      code = 0xFFFD;
      width =
          width;
    }) before.characters before.code_units c.args.units.now c.args.starts.now c.unit.result after
    (omega (arith, c.requires.units, c.if-width-eq0.false)) (omega (
      arith,
      c.requires.starts,
      c.if-width-eq0.false,
    )) is refl refl w)

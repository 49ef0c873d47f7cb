use Rattle.std.proofs.Common.{◌+◌, ◌-◌, ◌∙◌, ap, arith, map}
use Rattle.ucdfiles.specs.UnitStages.{unit_by_stages}
use Rattle.decoding.proofs.Gathering.{classes_more, units_more}
use Rattle.decoding.proofs.utf16.write_ascii_four.Goals as goal

pub returns-clause-written : goal.returns-clause-written
returns-clause-written c =
    let k = c.args.k in
    units_more c.args.borrowed.now c.args.block.now c.args.units.now c.look_up_ascii-own.new.units k (k + 4 - k)
    c.requires.inside c.requires.fits (omega arith) c.requires.before
    (c.look_up_ascii-own.ensures.units ∙ ap (map (unit_by_stages c.args.borrowed.now)) c.widened-four.ensures)

pub returns-clause-classes : goal.returns-clause-classes
returns-clause-classes c =
    let k = c.args.k in
    classes_more c.args.borrowed.now c.args.block.now c.args.units.now c.look_up_ascii-own.new.units k (k + 4 - k)
    c.joined.result c.requires.inside c.requires.fits (omega arith)
    (c.look_up_ascii-own.ensures.units ∙ ap (map (unit_by_stages c.args.borrowed.now)) c.widened-four.ensures)
    (c.joined.ensures _ _ c.requires.classes c.look_up_ascii-own.ensures.classes)

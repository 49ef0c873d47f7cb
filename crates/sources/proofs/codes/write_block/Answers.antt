use Rattle.std.proofs.Common.{◌+◌, ◌-◌, arith}
use Rattle.decoding.proofs.Gathering.{classes_more, units_more}
use Rattle.sources.proofs.codes.write_block.Goals as goal

pub returns-clause-written : goal.returns-clause-written
returns-clause-written c =
    let k = c.args.k in
    units_more c.args.borrowed.now c.args.codes.now c.args.units.now c.look_up_block-own.new.units k (k + 4 - k)
    c.requires.inside c.requires.fits (omega arith) c.requires.before c.look_up_block-own.ensures.units

pub returns-clause-classes : goal.returns-clause-classes
returns-clause-classes c =
    let k = c.args.k in
    classes_more c.args.borrowed.now c.args.codes.now c.args.units.now c.look_up_block-own.new.units k (k + 4 - k)
    c.joined.result c.requires.inside c.requires.fits (omega arith) c.look_up_block-own.ensures.units
    (c.joined.ensures _ _ c.requires.classes c.look_up_block-own.ensures.classes)

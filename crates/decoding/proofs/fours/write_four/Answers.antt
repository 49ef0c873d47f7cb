use Rattle.decoding.proofs.FourUnits.{all_written}
use Rattle.decoding.proofs.fours.write_four.Goals as goal

pub returns-clause-units : goal.returns-clause-units
returns-clause-units c =
    all_written c.args.units.now _ _ _ _ _ _ _ _ c.requires c.write_plain.ensures c.write_plain-2.ensures
    c.write_plain-3.ensures c.write_plain-4.ensures

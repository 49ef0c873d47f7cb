use Rattle.decoding.proofs.FourUnits.{items_of_four}
use Rattle.decoding.proofs.utf8.widened.Goals as goal

pub returns : goal.returns
returns c =
    items_of_four c.args.four.now _ _ _ _ c.requires c.from.ensures c.from-2.ensures c.from-3.ensures c.from-4.ensures

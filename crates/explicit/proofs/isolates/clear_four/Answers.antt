use Rattle.explicit.proofs.Matched.Stops.{cleared_four}
use Rattle.explicit.proofs.isolates.clear_four.Goals as goal

pub returns-clause-partners : goal.returns-clause-partners
returns-clause-partners g c = cleared_four c.args.p c.args.partners.now _ _ _ _ c.none.ensures c.none-2.ensures c.none-3.ensures
    c.none-4.ensures

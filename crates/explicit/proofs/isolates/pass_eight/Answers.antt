use Rattle.std.proofs.Common.{◌+◌, arith}
use Rattle.explicit.proofs.Matched.Stops.{cleared_joined}
use Rattle.explicit.proofs.isolates.pass_eight.Goals as goal

pub returns-clause-partners : goal.returns-clause-partners
returns-clause-partners g c =
    let end = c.pass_four in
    cleared_joined c.args.p (c.args.p + 4) end.result c.args.partners.now c.clear_four.new.partners end.new.partners
    (omega arith) end.ensures.later c.clear_four.ensures.partners end.ensures.partners

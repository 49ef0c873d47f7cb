use Rattle.lines.proofs.scratch.Scratch.fill_known.Goals as goal

pub returns-in-Some-clause-holds : goal.returns-in-Some-clause-holds
returns-in-Some-clause-holds g c = c.fill_one_line.ensures.holds c.args.limits

use Rattle.std.proofs.Common.{sym}
use Rattle.explicit.proofs.Matched.Stops.{cleared_none}
use Rattle.explicit.proofs.isolates.pass_four.Goals as goal

pub returns-then-is_formatting_in_four-clause-partners : goal.returns-then-is_formatting_in_four-clause-partners
returns-then-is_formatting_in_four-clause-partners g c = sym (cleared_none c.args.p c.args.partners.now)

use Rattle.std.proofs.Common.{arith}
use Rattle.compress.proofs.Laying.{unit_on}
use Rattle.compress.proofs.pass.next_for.Goals as goal

pub returns-else-m-eq0 : goal.returns-else-m-eq0
returns-else-m-eq0 c = λ sos us starts end e.
    unit_on us sos c.args.chosen.now starts c.args.m end c.args.strong c.args.unit c.unit_for.result c.args.next (omega (arith, c.if-m-eq0.false)) e c.unit_for.ensures

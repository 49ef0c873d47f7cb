use Rattle.std.proofs.Common.{arith}
use Rattle.lines.proofs.LinesRead.{length-lines_in}
use Rattle.lines.proofs.layout.Layout.line.Goals as goal

pub bounds_of-requires : goal.bounds_of-requires
bounds_of-requires c = omega (arith, c.requires, length-lines_in c.args.self.now.orders.now c.args.self.now.bounds.now)

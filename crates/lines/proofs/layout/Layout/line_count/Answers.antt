use Rattle.std.proofs.Common.{sym}
use Rattle.lines.proofs.LinesRead.{length-lines_in}
use Rattle.lines.proofs.layout.Layout.line_count.Goals as goal

pub returns : goal.returns
returns c = sym (length-lines_in c.args.self.now.orders.now c.args.self.now.bounds.now)

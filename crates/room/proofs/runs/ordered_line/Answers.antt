use Rattle.std.proofs.Common.{subst}
use Rattle.units.specs.Layout.{LineLayout}
use Rattle.lines.specs.Layouts.{view_of}
use Rattle.room.specs.OrderedLines.{HasOrder}
use Rattle.room.proofs.LineOrders.{line_in_order}
use Rattle.room.proofs.runs.ordered_line.Goals as goal

pub returns-clause-order : goal.returns-clause-order
returns-clause-order c have =
    let line = c.line-line.ensures in
    line_in_order (view_of c.args.layout.now).levels c.levels.result.now c.line-line.result.start c.line-line.result.end
    c.line-line.result.order.now line.forward c.levels.ensures
    (subst (λ (l : LineLayout). HasOrder (view_of c.args.layout.now).levels l) line.line.shows
    (have c.args.k c.requires))

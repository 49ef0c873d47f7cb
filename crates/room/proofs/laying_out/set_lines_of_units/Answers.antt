use Rattle.lines.specs.Scratches.{layout_in}
use Rattle.room.proofs.LineOrders.{in_order}
use Rattle.room.proofs.laying_out.set_lines_of_units.Goals as goal

pub returns-clause-in_order : goal.returns-clause-in_order
returns-clause-in_order c =
    let h = c.requires.holds in
    in_order (layout_in c.set_lines_into.new.room) h.0 c.args.text.now h.1 c.args.breaks.now.positions
    (c.set_lines_into.ensures.laid_out h.0 h.1 h.2)

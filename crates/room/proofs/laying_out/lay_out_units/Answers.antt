use Rattle.lines.specs.Scratches.{layout_in}
use Rattle.room.proofs.LineOrders.{in_order}
use Rattle.room.proofs.laying_out.lay_out_units.Goals as goal

pub returns-clause-in_order : goal.returns-clause-in_order
returns-clause-in_order g c =
    in_order (layout_in c.fill_known.new.self) c.args.limits c.args.text.now c.args.direction c.args.breaks.now.positions
    c.fill_known.ensures.layout

use Rattle.std.proofs.Common.{drop}
use Rattle.std.specs.Fmt.{decimal}
use Rattle.std.specs.List.{flat_map}
use Rattle.units.specs.Layout.{all_orders}
use Rattle.lines.specs.Layouts.{view_of}
use Rattle.rows.proofs.Placed.{HasBegun}
use Rattle.rows.proofs.character_text.print_orders_between.Given as goal

abbrev pub invariant-loop-k : goal.invariant-loop-k
invariant-loop-k g l =
    HasBegun decimal (g.W.Write.contents l.initial.w) (g.W.Write.contents l.w) l.begun (all_orders (view_of l.layout))
    (flat_map (λ line. line.order) (drop l.k (view_of l.layout).lines))

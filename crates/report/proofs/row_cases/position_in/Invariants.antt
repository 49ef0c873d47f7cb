use Rattle.std.proofs.Common.{◌≡◌, drop, flat_map}
use Rattle.std.specs.List.{slice_get}
use Rattle.units.specs.Layout.{all_orders}
use Rattle.lines.specs.Layouts.{view_of}
use Rattle.report.proofs.row_cases.position_in.Given as goal

abbrev pub invariant-loop-k : goal.invariant-loop-k
invariant-loop-k l =
    slice_get (all_orders (view_of l.layout)) l.fn.index ≡
    slice_get (flat_map (λ line. line.order) (drop l.k (view_of l.layout).lines)) l.remaining

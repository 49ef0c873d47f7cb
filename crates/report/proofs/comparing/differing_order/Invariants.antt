use Rattle.std.proofs.Common.{◌≡◌, ◌≤◌, ◌+◌, drop, length, flat_map}
use Rattle.std.specs.Prelude.{nat_eq}
use Rattle.units.specs.Layout.{all_orders}
use Rattle.lines.specs.Layouts.{view_of}
use Rattle.bidtests.specs.Verdicts.{first_difference}
use Rattle.report.specs.Comparing.{remaining_order}
use Rattle.report.specs.ReadExpected.{order_read}
use Rattle.report.proofs.comparing.differing_order.Given as goal

abbrev pub invariant-loop-k : goal.invariant-loop-k
invariant-loop-k l = record {
  within : l.at + length (remaining_order l.remaining) ≤ length l.claimed;
  rest : first_difference nat_eq (order_read l.fn.compared (view_of l.layout).levels l.claimed)
      (all_orders (view_of l.layout)) 0
      ≡ first_difference nat_eq (remaining_order l.remaining)
      (flat_map (λ line. line.order) (drop l.k (view_of l.layout).lines)) l.at;
}

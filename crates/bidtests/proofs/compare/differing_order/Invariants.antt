use Rattle.std.proofs.Common.{◌≡◌, ◌≤◌, drop, length, flat_map}
use Rattle.std.specs.Prelude.{nat_eq}
use Rattle.units.specs.Layout.{all_orders}
use Rattle.lines.specs.Layouts.{view_of}
use Rattle.bidtests.specs.Verdicts.{first_difference}
use Rattle.bidtests.proofs.compare.differing_order.Given as goal

abbrev pub invariant-loop-k : goal.invariant-loop-k
invariant-loop-k l = record {
  within : l.at ≤ length l.claimed;
  rest : first_difference nat_eq l.claimed (all_orders (view_of l.layout)) 0
      ≡ first_difference nat_eq (drop l.at l.claimed)
      (flat_map (λ line. line.order) (drop l.k (view_of l.layout).lines)) l.at;
}

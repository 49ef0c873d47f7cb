use Rattle.std.proofs.Common.{◌≡◌, ◌∙◌, ap, sym, arith, length}
use Rattle.std.specs.Prelude.{nat_eq}
use Rattle.units.specs.Layout.{all_orders}
use Rattle.lines.specs.Layouts.{view_of}
use Rattle.bidtests.specs.Verdicts.{first_difference}
use Rattle.report.specs.Comparing.{remaining_order}
use Rattle.report.specs.ReadExpected.{order_read}
use Rattle.report.proofs.ReadOrders.{no-more-read}
use Rattle.report.proofs.comparing.differing_order.Goals as goal

pub loop-k-init : goal.loop-k-init
loop-k-init c =
    let view = view_of c.args.layout.now in
    let levels : c.levels.result.now ≡ view.levels = c.levels.ensures in
    let remaining : remaining_order c.new-remaining.result ≡ order_read c.args.compared view.levels c.args.claimed.now =
    c.new-remaining.ensures ∙ ap (λ ls. order_read c.args.compared ls c.args.claimed.now) levels in
    let same = ap length remaining in
    record {
      within = omega (arith, same, no-more-read c.args.compared view.levels c.args.claimed.now);
      rest = ap (λ ps. first_difference nat_eq ps (all_orders view) 0) (sym remaining);
    }

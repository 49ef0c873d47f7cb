use Rattle.std.proofs.Common.{◌∙◌}
use Rattle.lines.specs.Layouts.{view_of}
use Rattle.bidtests.specs.Readings.{expected_of}
use Rattle.report.proofs.ReadLevels.{order-place}
use Rattle.report.proofs.comparing.wrong_place.Goals as goal

pub returns-in-All : goal.returns-in-All
returns-in-All c = rw c.in-All.is c.wrong_part.ensures

pub returns-in-OrderAlone : goal.returns-in-OrderAlone
returns-in-OrderAlone c =
    rw c.in-OrderAlone.is (c.wrong_order.ensures ∙
    order-place c.args.leniency.positions (view_of c.args.layout.now) (expected_of c.args.expected))

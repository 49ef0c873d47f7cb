use Rattle.std.proofs.Common.{arith}
use Rattle.visual.proofs.LineRuns.{run_from-is}
use Rattle.visual.proofs.line.OrderedLine.run_from.Goals as goal

pub returns-clause-run : goal.returns-clause-run
returns-clause-run c o b =
    let line = c.args.self.now in
    let to = c.place_after-to in
    run_from-is line c.args.from to.result c.min-least.result c.max.result c.min.result _ o b
    to.ensures.following to.ensures.inside to.ensures.same to.ensures.ends c.level_or_para-level.ensures (omega (
      arith,
      to.ensures.following,
    ))
    c.min-least.ensures c.max.ensures c.min.ensures c.first_removed.ensures.inside c.first_removed.ensures.up_to
    c.first_removed.ensures.removed c.first_removed.ensures.stops
    c.end_after.ensures.joined c.end_after.ensures.alone

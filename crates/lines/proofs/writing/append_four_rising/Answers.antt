use Rattle.std.proofs.Common.{take}
use Rattle.lines.proofs.EightWritten.{four_rising}
use Rattle.lines.proofs.writing.append_four_rising.Goals as goal

pub returns-clause-order : goal.returns-clause-order
returns-clause-order c =
    let one = c.append_one-one in
    let two = c.append_one-two in
    let three = c.append_one-three in
    let four = c.append_one in
    four_rising c.args.levels.now c.args.start (take c.args.count c.args.order.now) (take one.result one.new.order)
    (take two.result two.new.order) (take three.result three.new.order) (take four.result four.new.order)
    one.ensures.order two.ensures.order three.ensures.order four.ensures.order

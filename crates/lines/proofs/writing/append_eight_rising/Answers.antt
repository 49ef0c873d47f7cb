use Rattle.std.proofs.Common.{◌-◌, ◌++◌, length, take, arith, ap, ◌∙◌}
use Rattle.lines.proofs.EightWritten.{written_after}
use Rattle.lines.proofs.writing.append_eight_rising.Goals as goal

pub returns-clause-order : goal.returns-clause-order
returns-clause-order c =
    let w = c.write_eight_rising in
    let order = c.args.order.now in
    written_after order w.new.order c.args.count w.result (length order - c.args.count) (omega (arith, c.requires.room))
    (omega (arith, w.ensures.count, w.auto.order, c.requires.room))
    ∙ ap (λ xs. take c.args.count order ++ xs) w.ensures.order

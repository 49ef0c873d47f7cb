use Rattle.std.proofs.Common.{◌≡◌, ◌+◌, ◌-◌, ◌++◌, arith, take, sym, ap, ◌∙◌}
use Rattle.units.specs.Positions.{positions_from}
use Rattle.lines.specs.LinePositions.{remaining}
use Rattle.lines.proofs.EightWritten.{rising_with}
use Rattle.lines.proofs.Whole.{remaining-all}
use Rattle.lines.proofs.writing.write_eight_rising.Goals as goal

pub returns-then-eight_remain-clause-order : goal.returns-then-eight_remain-clause-order
returns-then-eight_remain-clause-order c =
    let start = c.args.start in
    let eight : start + 8 - start ≡ 8 = omega arith in
    c.write_all_of_eight_rising.ensures
    ∙ ap (positions_from start) (sym eight)
    ∙ sym (remaining-all c.args.levels.now start (start + 8) (omega arith)
    (c.eight_remain.ensures c.if-eight_remain.true))

pub returns-clause-order : goal.returns-clause-order
returns-clause-order c =
    let levels = c.args.levels.now in
    let start = c.args.start in
    let half = c.append_four_rising-half in
    let four = c.append_four_rising in
    let end : start + 4 + 4 ≡ start + 8 = omega arith in
    rising_with levels start (start + 4) (start + 8) (take half.result half.new.order)
    (take four.result four.new.order) (omega arith) (omega arith) half.ensures.order
    (four.ensures.order ∙ ap (λ n. take half.result half.new.order ++ remaining levels (start + 4) n) end)

use Rattle.std.proofs.Common.{◌≡◌, ◌%◌, length, arith, ap, ◌∙◌}
use Rattle.std.proofs.lemmas.Grind.{common_steps}
use Rattle.std.proofs.lemmas.List.{length-take}
use Rattle.lines.proofs.RunWriting.{run-falling, run-rising, run-some}
use Rattle.lines.proofs.order.write_run.Goals as goal

pub returns-then-is_some_and-clause-order : goal.returns-then-is_some_and-clause-order
returns-then-is_some_and-clause-order g c =
    let r = c.requires.run in
    let odd : r.level % 2 ≡ 1 = grind (arith, common_steps) in
    c.write_falling.ensures.order ∙ run-falling c.args.run.levels.now c.args.run.start c.args.run.end r odd

pub returns-else-is_some_and-clause-order : goal.returns-else-is_some_and-clause-order
returns-else-is_some_and-clause-order g c =
    let r = c.requires.run in
    let even : r.level % 2 ≡ 0 = grind (arith, common_steps) in
    c.write_rising.ensures.order ∙ run-rising c.args.run.levels.now c.args.run.start c.args.run.end r even

pub returns-then-is_some_and-clause-some : goal.returns-then-is_some_and-clause-some
returns-then-is_some_and-clause-some g c =
    let r = c.requires.run in
    let w = c.write_falling in
    let odd : r.level % 2 ≡ 1 = grind (arith, common_steps) in
    let same = ap length (w.ensures.order ∙ run-falling c.args.run.levels.now c.args.run.start c.args.run.end r odd) in
    omega (
      arith,
      same,
      length-take w.result w.new.order,
      run-some c.args.run.levels.now c.args.run.start c.args.run.end r,
    )

pub returns-else-is_some_and-clause-some : goal.returns-else-is_some_and-clause-some
returns-else-is_some_and-clause-some g c =
    let r = c.requires.run in
    let w = c.write_rising in
    let even : r.level % 2 ≡ 0 = grind (arith, common_steps) in
    let same = ap length (w.ensures.order ∙ run-rising c.args.run.levels.now c.args.run.start c.args.run.end r even) in
    omega (
      arith,
      same,
      length-take w.result w.new.order,
      run-some c.args.run.levels.now c.args.run.start c.args.run.end r,
    )

use Rattle.std.proofs.Common.{◌+◌, ap, ◌∙◌}
use Rattle.std.specs.Prelude.{reverse}
use Rattle.lines.proofs.EightWritten.{eight_from, eight_put}
use Rattle.lines.proofs.writing.write_all_of_eight_falling.Goals as goal

pub returns : goal.returns
returns c =
    let start = c.args.start in
    eight_put c.args.order.now (start + 7) (start + 6) (start + 5) (start + 4) (start + 3) (start + 2) (start + 1) start
    c.requires.room ∙ ap reverse (eight_from start)

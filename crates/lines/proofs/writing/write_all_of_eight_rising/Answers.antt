use Rattle.std.proofs.Common.{◌+◌, ◌∙◌}
use Rattle.lines.proofs.EightWritten.{eight_from, eight_put}
use Rattle.lines.proofs.writing.write_all_of_eight_rising.Goals as goal

pub returns : goal.returns
returns c =
    let start = c.args.start in
    eight_put c.args.order.now start (start + 1) (start + 2) (start + 3) (start + 4) (start + 5) (start + 6) (start + 7)
    c.requires.room ∙ eight_from start

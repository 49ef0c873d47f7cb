use Rattle.ucdfiles.specs.PairFiles.{mirror_in}
use Rattle.ucdfiles.specs.LongLines.{pair_line_says-long}
use Rattle.ucdfiles.proofs.PairLines.{pair-silent, pair-says}
use Rattle.ucdfiles.proofs.pair_line.mirror_line.Goals as goal

pub returns-then-line-gt-LONGEST_LINE-clause-value : goal.returns-then-line-gt-LONGEST_LINE-clause-value
returns-then-line-gt-LONGEST_LINE-clause-value c =
    pair_line_says-long mirror_in c.args.line.now c.if-line-gt-LONGEST_LINE.true

pub returns-then-is_empty-clause-value : goal.returns-then-is_empty-clause-value
returns-then-is_empty-clause-value c =
    pair-silent mirror_in c.args.line.now c.content-content.result.now c.if-line-gt-LONGEST_LINE.false
    c.content-content.ensures.content c.if-is_empty.ensures

pub returns-in-Ok-clause-value : goal.returns-in-Ok-clause-value
returns-in-Ok-clause-value c =
    pair-says mirror_in c.args.line.now c.content-content.result.now c.if-line-gt-LONGEST_LINE.false
    c.content-content.ensures.content c.if-is_empty.ensures _ c.in-Ok.ensures.value

pub returns-in-Err-clause-value : goal.returns-in-Err-clause-value
returns-in-Err-clause-value c =
    pair-says mirror_in c.args.line.now c.content-content.result.now c.if-line-gt-LONGEST_LINE.false
    c.content-content.ensures.content c.if-is_empty.ensures _ c.in-Err.ensures.value

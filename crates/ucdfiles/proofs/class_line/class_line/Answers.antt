use Rattle.std.proofs.Common.{◌≡◌, ◌<◌, ◌∙◌, sym, ap, length, arith}
use Rattle.std.proofs.lemmas.Bool.{eqb-true, eqb-false}
use Rattle.ucdfiles.specs.ClassFile.{comment_says}
use Rattle.ucdfiles.specs.Statements.{span_says}
use Rattle.ucdfiles.specs.declared.span.FileLine.TheVariants.{Data}
use Rattle.ucdfiles.proofs.ClassLines.{class_line_says-data, class_line_says-comment, class_line_says-silent}
use Rattle.ucdfiles.specs.LongLines.{class_line_says-long}
use Rattle.ucdfiles.proofs.class_line.class_line.Goals as goal

pub returns-then-line-gt-LONGEST_LINE-clause-value : goal.returns-then-line-gt-LONGEST_LINE-clause-value
returns-then-line-gt-LONGEST_LINE-clause-value c = class_line_says-long c.args.line.now c.if-line-gt-LONGEST_LINE.true

pub returns-in-None-clause-value : goal.returns-in-None-clause-value
returns-in-None-clause-value c =
    let none : length c.trim-content.result.now ≡ 0 = eqb-true _ _ (sym c.if-is_empty.ensures) in
    class_line_says-silent c.args.line.now c.cut.result.0.now c.trim-content.result.now c.if-line-gt-LONGEST_LINE.false
    c.cut.ensures.before c.trim-content.ensures.rest none (rw c.in-None.is at c.cut.ensures.following)

pub returns-in-Some-clause-value : goal.returns-in-Some-clause-value
returns-in-Some-clause-value c =
    let none : length c.trim-content.result.now ≡ 0 = eqb-true _ _ (sym c.if-is_empty.ensures) in
    let e = class_line_says-comment c.args.line.now c.cut.result.0.now c.trim-content.result.now c.in-Some.comment.now
    c.if-line-gt-LONGEST_LINE.false c.cut.ensures.before c.trim-content.ensures.rest none
    (rw c.in-Some.is at c.cut.ensures.following) in
    e ∙ ap comment_says (sym c.trim_start.ensures.rest) ∙ c.comment_line.ensures.value

pub returns-in-Ok-clause-value : goal.returns-in-Ok-clause-value
returns-in-Ok-clause-value c =
    let some : 0 < length c.trim-content.result.now = omega (arith, eqb-false _ _ (sym c.if-is_empty.ensures)) in
    class_line_says-data c.args.line.now c.cut.result.0.now c.trim-content.result.now c.if-line-gt-LONGEST_LINE.false
    c.cut.ensures.before c.trim-content.ensures.rest some ∙ ap (span_says Data) c.in-Ok.ensures.value

pub returns-in-Err-clause-value : goal.returns-in-Err-clause-value
returns-in-Err-clause-value c =
    let some : 0 < length c.trim-content.result.now = omega (arith, eqb-false _ _ (sym c.if-is_empty.ensures)) in
    class_line_says-data c.args.line.now c.cut.result.0.now c.trim-content.result.now c.if-line-gt-LONGEST_LINE.false
    c.cut.ensures.before c.trim-content.ensures.rest some ∙ ap (span_says Data) c.in-Err.ensures.value

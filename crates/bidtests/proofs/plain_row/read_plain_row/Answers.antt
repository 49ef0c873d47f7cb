use Rattle.std.proofs.Common.{◌-◌, length, take, drop, get_or, refl}
use Rattle.bidtests.proofs.PlainLines.{plain-row}
use Rattle.bidtests.proofs.plain_row.read_plain_row.Goals as goal

pub returns-clause-row : goal.returns-clause-row
returns-clause-row c =
    let line = c.args.line.now in
    let end = c.in_ok-end.end in
    let rest = take (length line - end) (drop end line) in
    plain-row line end (get_or rest 2 0) c.read_names.new.text.items c.in_ok-end.ensures.names c.requires.short
    c.in_ok-end.ensures.inside c.in_ok-end.ensures.end rest refl c.if-tail-ne3.false c.if-tail-ne32.false refl
    c.named_by_digit.result c.named_by_digit.ensures.named c.named_by_digit.ensures.plain c.named_by_digit.ensures.full

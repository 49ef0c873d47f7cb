use Rattle.std.proofs.Common.{◌≡◌, ◌≢◌, cond, length, arith, sym, ap, ◌∙◌}
use Rattle.std.proofs.lemmas.Bool.{eqb-false}
use Rattle.lines.proofs.Separators.{open_ends, count-paragraphs, open_ends-last, open_by}
use Rattle.lines.proofs.resets.count_separators.Goals as goal

pub returns : goal.returns
returns c =
    let own = c.args.own.now in
    let filled : length own ≢ 0 = eqb-false (length own) 0 (sym c.is_empty.ensures ∙ c.if-is_empty.false) in
    let last : open_ends own ≡ cond c.is_separator-closed.result 0 1 =
    open_ends-last own _ (omega arith) ∙ ap (λ b. cond b 0 1) (sym c.is_separator-closed.ensures) in
    let rest : c.from.result ≡ cond c.is_separator-closed.result 0 1 =
    c.from.ensures ∙ open_by c.is_separator-closed.result in
    omega (arith, count-paragraphs own, c.requires)

use Rattle.std.proofs.Common.{◌≡◌, ◌++◌, ◌∙◌, ◌∷◌, [], ◌+◌, ◌/◌, ◌%◌, arith, sym, ap}
use Rattle.std.specs.Fmt.{decimal}
use Rattle.std.proofs.lemmas.Fmt.{decimal_digit, decimal_step}
use Rattle.rows.proofs.Gathered.{then-added}
use Rattle.rows.proofs.item_text.add_decimal.Goals as goal

pub returns-then-number-lt10-clause-text : goal.returns-then-number-lt10-clause-text
returns-then-number-lt10-clause-text c =
    c.push.ensures.items ∙
    ap (λ ds. c.args.to.now.items ++ ds) (sym (decimal_digit c.args.number c.if-number-lt10.true))

pub returns-then-number-lt100-clause-text : goal.returns-then-number-lt100-clause-text
returns-then-number-lt100-clause-text c =
    let n = c.args.number in
    let tens = decimal_digit (n / 10) (omega (arith, c.if-number-lt100.true)) in
    let text : decimal n ≡ (48 + n / 10) ∷ (48 + n % 10) ∷ [] =
    decimal_step n c.if-number-lt10.false (omega (arith, c.if-number-lt100.true)) ∙
    ap (λ ds. ds ++ (48 + n % 10) ∷ []) tens in
    then-added _ _ _ _ _ c.push-then-number-lt100.ensures.items c.push-then-number-lt100-2.ensures.items ∙
    ap (λ ds. c.args.to.now.items ++ ds) (sym text)

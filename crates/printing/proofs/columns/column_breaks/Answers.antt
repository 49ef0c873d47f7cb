use Rattle.std.proofs.Common.{◌≡◌, ◌∙◌, ap, arith, length, refl, sym}
use Rattle.printing.specs.Columns.{is_column_break, separates_at}
use Rattle.printing.proofs.Breaks.{passing, passing-added, passing-unchanged, breaks-of-columns, start_after_separator, start_unchanged}
use Rattle.printing.proofs.columns.column_breaks.Goals as goal
use Rattle.printing.proofs.columns.column_breaks.Goals.{then-is_separator, else-is_separator, then-breaks_at+in_ok-add, else-breaks_at}

pub loop-p-preserved : goal.loop-p-preserved
loop-p-preserved c =
    let text = c.args.text.now in
    let columns = c.from-columns.result in
    let p = c.loop-p.p in
    let separates : c.is_separator.result ≡ separates_at text p = c.is_separator.ensures in
    let breaks : c.breaks_at.result ≡ is_column_break text columns p = c.breaks_at.ensures ∙
    rw c.loop-p.invariant.0 refl in (
      elim c.if-is_separator.branch [
        | then-is_separator w ↦ w.start-is ∙ start_after_separator text p (sym separates ∙ w.if-is_separator.true)
        | else-is_separator w ↦ start_unchanged text p _ (sym separates ∙ w.if-is_separator.false) (w.start-is ∙
            c.loop-p.invariant.0)
      ],
      elim c.if-breaks_at.branch [
        | then-breaks_at+in_ok-add w ↦
            ap (λ v. v.items) w.breaks-is ∙ w.in_ok-add.ensures
            ∙ passing-added (is_column_break text columns) p _ (sym breaks ∙ w.if-breaks_at.true) c.loop-p.invariant.1
        | else-breaks_at w ↦
            passing-unchanged (is_column_break text columns) p _ (sym breaks ∙ w.if-breaks_at.false)
            (ap (λ v. v.items) w.breaks-is ∙ c.loop-p.invariant.1)
      ],
    )

pub returns-clause-are : goal.returns-clause-are
returns-clause-are c =
    let test = is_column_break c.args.text.now c.from-columns.result in
    let whole : c.loop-p.p ≡ length c.args.text.now = omega arith in
    let found : c.loop-p.breaks.items ≡ passing test (length c.args.text.now) = c.loop-p.invariant.1 ∙
    ap (λ n. passing test n) whole in
    rw found (breaks-of-columns c.args.text.now c.from-columns.result _)

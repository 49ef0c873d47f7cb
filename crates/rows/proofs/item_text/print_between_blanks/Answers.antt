use Rattle.std.proofs.Common.{◌∙◌, ◌++◌, ◌<◌, ℕ, List, rules, subst, ap, length, take, arith}
use Rattle.std.specs.Io.KnownBytes.{Appends}
use Rattle.std.specs.Prelude.{OnOk}
use Rattle.printing.proofs.Appending.{Appends-then, Appends-to}
use Rattle.rows.specs.RowTexts.{after_blanks, between_blanks}
use Rattle.rows.proofs.Gathered.{following-first, between-parts, sliced-following}
use Rattle.rows.proofs.item_text.print_between_blanks.Goals as goal

pub returns : goal.returns
returns g c =
    let text = g.T.RowItem.text in
    let items = c.args.items.now in
    let n = c.add_items-count.result in
    let there : 0 < length items = search (rules, arith) in
    let some : 0 < n = c.add_items-count.ensures.some there (omega (
      arith,
      ap (λ (bs : List ℕ). length bs) c.new-text.ensures,
    )) in
    let first = c.as_slice.ensures.value ∙ c.add_items-count.ensures.text ∙
    ap (λ bs. bs ++ after_blanks text (take n items)) c.new-text.ensures ∙
    following-first text items n some there in
    let written = Appends-to _ _ _ _ (sliced-following 32 _ _ first) c.in_ok-hand_over.ensures.written in
    let whole = ap (λ xs. between_blanks text (take n items) ++ after_blanks text xs) c.split_at.ensures.back ∙
    between-parts text items n some there in
    subst (λ bs. OnOk c.print_after_blanks.result (Appends (g.W.Write.contents c.args.w.now)
    (g.W.Write.contents c.print_after_blanks.new.w) bs)) whole
    (Appends-then c.print_after_blanks.result _ _ _ _ _ written c.print_after_blanks.ensures)

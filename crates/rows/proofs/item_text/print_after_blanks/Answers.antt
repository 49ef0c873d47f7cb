use Rattle.std.proofs.Common.{◌∙◌, ◌++◌, sym, ap, take, take-append-drop}
use Rattle.printing.proofs.Appending.{Appends-to}
use Rattle.rows.specs.RowTexts.{after_blanks}
use Rattle.rows.proofs.Gathered.{more_passed}
use Rattle.rows.proofs.item_text.print_after_blanks.Goals as goal

pub loop-remaining-preserved : goal.loop-remaining-preserved
loop-remaining-preserved g c =
    let items = take c.add_items-count.result c.loop-remaining.remaining.now in
    let text = c.as_slice.ensures.value ∙ c.add_items-count.ensures.text ∙
    ap (λ bs. bs ++ after_blanks g.T.RowItem.text items) c.clear.ensures in
    let parts = sym (take-append-drop c.add_items-count.result c.loop-remaining.remaining.now) ∙
    ap (λ xs. items ++ xs) (sym c.split_at.ensures.back) in
    let written = Appends-to _ _ _ _ text c.in_ok-hand_over.ensures.written in
    more_passed _ _ _ _ _ _ _ _ parts c.loop-remaining.invariant written

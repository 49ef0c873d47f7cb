use Rattle.std.proofs.Common.{◌≡◌, ◌∙◌, ◌⊎◌, [], inl, inr, ap, refl, sym, slice_index_or}
use Rattle.std.specs.Char.{encode_utf8}
use Rattle.std.specs.Iterator.Adapters.{zip_first, zip_second}
use Rattle.std.specs.Slice.Iter.{iter_rest}
use Rattle.std.proofs.lemmas.List.{nil_from_length}
use Rattle.units.specs.Layout.{LineLayout}
use Rattle.lines.specs.Layouts.{view_of, no_line}
use Rattle.lines.specs.Showing.{remaining_shown}
use Rattle.printing.proofs.Appending.{Appends-then}
use Rattle.printing.proofs.Showing.{nothing_shown, one_more_shown, all_shown}
use Rattle.printing.proofs.reorder_text.print_line.Goals as goal

pub loop-position-init : goal.loop-position-init
loop-position-init g c =
    let line = slice_index_or (view_of c.args.layout.now).lines c.args.k no_line in
    let it = c.into_iter-position-iterator.result in
    let order : line.order ≡ c.line.result.order.now = ap (λ (l : LineLayout). l.order) c.line.ensures.line.shows in
    let rest : iter_rest (zip_first it) ≡ c.line.result.order.now =
    rw (
      c.into_iter-position-iterator.ensures.into_iter_gives,
      c.zip-position-items.ensures.first,
    ) c.iter.ensures.rest in
    let shown : remaining_shown (zip_second it) ≡ remaining_shown c.shown.result =
    rw (c.into_iter-position-iterator.ensures.into_iter_gives, c.zip-position-items.ensures.second) refl in
    nothing_shown _ _ _ _ _ _ _ _ (order ∙ sym rest) (shown ∙ c.shown.ensures) (rw rest c.line.ensures.places)

pub loop-position-preserved : goal.loop-position-preserved
loop-position-preserved g c =
    one_more_shown _ _ _ _ _ _ _ _ _ _ _ _ _ _ c.in-Some.ensures.steps.0 c.in-Some.ensures.steps.1
    c.loop-position.invariant c.in_ok-print_shown.ensures.printed

pub returns-clause-printed : goal.returns-clause-printed
unfolding encode_utf8
returns-clause-printed g c =
    let it = c.loop-position.position-iterator in
    let none : (iter_rest (zip_first it) ≡ []) ⊎ (remaining_shown (zip_second it) ≡ []) =
    elim c.in-None.ensures.steps [
      | inl x ↦ inl (nil_from_length _ x.1.0)
      | inr x ↦ inr x.1.0
    ] in
    let shown = all_shown _ _ _ _ _ _ _ _ _ none c.loop-position.invariant in
    Appends-then c.print.result _ _ _ _ _ shown c.print.ensures.printed

use Rattle.std.proofs.Common.{◌||◌, ◌∙◌, ap, arith, drop, sym}
use Rattle.std.specs.Fmt.{decimal}
use Rattle.std.specs.List.{flat_map}
use Rattle.std.proofs.lemmas.List.{drop_more, length-drop, nil_from_length}
use Rattle.units.specs.Layout.{LineLayout}
use Rattle.lines.specs.Layouts.{no_line, view_of}
use Rattle.printing.proofs.Appending.{Appends-to}
use Rattle.rows.specs.Placing.{after_or_between, has_some}
use Rattle.rows.proofs.Placed.{all-begun, none-begun, part-begun}
use Rattle.rows.proofs.character_text.print_orders_between.Goals as goal

pub loop-k-init : goal.loop-k-init
loop-k-init g c = none-begun _ _ _

pub loop-k-preserved : goal.loop-k-preserved
loop-k-preserved g c =
    let lines = (view_of c.args.layout.now).lines in
    let begun = c.loop-k.begun in
    let shows = c.line.ensures.line.shows in
    let text = ap (λ (l : LineLayout). after_or_between begun decimal l.order) shows in
    let some = ap (λ (l : LineLayout). begun || has_some l.order) shows in
    part-begun _ _ _ _ _ _ _ _ _ _ (ap (flat_map (λ (l : LineLayout). l.order))
    (drop_more lines c.loop-k.k no_line (omega arith)))
    (c.has_begun-begun.ensures ∙
    sym some) c.loop-k.invariant (Appends-to _ _ _ _ (sym text) c.in_ok-print_line_positions.ensures)

pub returns : goal.returns
returns g c =
    let lines = (view_of c.args.layout.now).lines in
    let none = nil_from_length (drop c.loop-k.k lines) (omega (arith, length-drop c.loop-k.k lines)) in
    all-begun _ _ _ _ _ _ (ap (flat_map (λ (line : LineLayout). line.order)) none) c.loop-k.invariant

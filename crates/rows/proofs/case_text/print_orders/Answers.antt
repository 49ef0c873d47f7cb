use Rattle.std.proofs.Common.{◌++◌, ℕ, ap, sym, arith}
use Rattle.std.specs.Prelude.{codes}
use Rattle.std.specs.Fmt.{decimal}
use Rattle.std.proofs.lemmas.List.{drop_more, nil_from_length, length-drop}
use Rattle.units.specs.Layout.{LineLayout}
use Rattle.lines.specs.Layouts.{view_of, no_line}
use Rattle.printing.proofs.Appending.{Appends-to}
use Rattle.printing.proofs.Passing.{nothing_passed, one_more_passed, all_passed}
use Rattle.rows.specs.RowTexts.{after_blanks}
use Rattle.rows.proofs.JoinedTexts.{flat_map-twice}
use Rattle.rows.proofs.case_text.print_orders.Goals as goal

pub loop-k-init : goal.loop-k-init
loop-k-init g c = nothing_passed _ _ _

pub loop-k-preserved : goal.loop-k-preserved
loop-k-preserved g c =
    let lines = (view_of c.args.layout.now).lines in
    let order = ap (λ (l : LineLayout). after_blanks decimal l.order) c.line.ensures.line.shows in
    one_more_passed _ _ _ _ _ _ _ _ (drop_more lines c.loop-k.k no_line (omega arith)) c.loop-k.invariant
    (Appends-to _ _ _ _ (sym order) c.in_ok-print_positions.ensures)

pub returns : goal.returns
returns g c =
    let lines = (view_of c.args.layout.now).lines in
    let all = all_passed _ _ _ _ _ (nil_from_length _ (omega (arith, length-drop c.loop-k.k lines))) c.loop-k.invariant
    in
    Appends-to _ _ _ _ (sym (flat_map-twice (λ (p : ℕ). codes " " ++ decimal p) (λ (l : LineLayout). l.order) lines))
    all

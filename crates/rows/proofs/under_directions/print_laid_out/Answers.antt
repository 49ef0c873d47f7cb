use Rattle.std.proofs.Common.{◌∙◌, ℕ, List, append-nil, subst, sym, OnOk}
use Rattle.std.specs.Io.KnownBytes.{Appends}
use Rattle.std.specs.List.{flat_map}
use Rattle.units.specs.Layout.{TextLayout}
use Rattle.units.specs.Limits.{standard}
use Rattle.units.specs.Lines.{ended}
use Rattle.rows.specs.RowTexts.{Case, layout_of_case, lines_with_layout}
use Rattle.rows.proofs.under_directions.print_laid_out.Goals as goal

pub returns : goal.returns
returns g c =
    let kind = c.args.kind in
    let case : Case = record { text = c.args.text.now; direction = c.args.direction } in
    let lines = lines_with_layout kind (layout_of_case standard case) case in
    let noted : OnOk c.print_case.result (Appends (g.W.Write.contents c.args.w.now)
    (g.W.Write.contents c.print_case.new.w) (flat_map ended lines)) =
    subst (λ (layout : TextLayout).
    OnOk c.print_case.result (Appends (g.W.Write.contents c.args.w.now) (g.W.Write.contents c.print_case.new.w)
    (flat_map ended (lines_with_layout kind layout case)))) (c.layout.ensures ∙
    c.requires.layout) c.print_case.ensures in
    subst (λ (ls : List (List ℕ)).
    OnOk c.print_case.result (Appends (g.W.Write.contents c.args.w.now) (g.W.Write.contents c.print_case.new.w)
    (flat_map ended ls)))
    (sym (append-nil lines)) noted

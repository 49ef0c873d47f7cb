use Rattle.std.proofs.Common.{rules, ◌≡◌, [], OnOk, subst}
use Rattle.std.specs.Io.KnownBytes.{Appends}
use Rattle.units.specs.Layout.{TextLayout, layout_of}
use Rattle.units.specs.Limits.{standard}
use Rattle.lines.specs.Layouts.{view_of}
use Rattle.bidtests.specs.Readings.{expected_of}
use Rattle.explain.specs.RowTexts.{expected_text}
use Rattle.explain.proofs.row_print.print_beside.Goals as goal

pub returns-clause-text : goal.returns-clause-text
returns-clause-text g c =
    let text = c.args.expected.text.now in
    let d = c.args.direction in
    let laid : view_of c.layout.result ≡ layout_of standard text d [] = search rules in
    subst (λ (layout : TextLayout).
    OnOk c.print_expected.result (Appends (g.W.Write.contents c.args.w.now)
    (g.W.Write.contents c.print_expected.new.w) (expected_text (expected_of c.args.expected) layout)))
    laid c.print_expected.ensures

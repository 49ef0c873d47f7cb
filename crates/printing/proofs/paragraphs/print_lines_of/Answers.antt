use Rattle.std.proofs.Common.{◌∙◌, ap, length, subst}
use Rattle.std.specs.Io.KnownBytes.{Appends}
use Rattle.units.specs.Layout.{TextLayout, layout_of}
use Rattle.units.specs.Limits.{standard}
use Rattle.lines.specs.LineBreaks.{AreBreaks, BreaksView}
use Rattle.lines.proofs.Lengths.{length-levels}
use Rattle.ucdfiles.specs.Tables.{mirror_by}
use Rattle.printing.specs.ReorderText.{reorder_text}
use Rattle.printing.proofs.Breaks.{breaks_are_taken}
use Rattle.printing.proofs.paragraphs.print_lines_of.Goals as goal

pub unwrap-breaks-requires : goal.unwrap-breaks-requires
unwrap-breaks-requires g c =
    let breaks : AreBreaks c.deref.result.now (length c.args.text.now.units.now) =
    rw c.deref.ensures.value c.in_ok-positions.ensures.are in
    breaks_are_taken _ _ _ _ breaks c.new.ensures

pub print_lines-requires-clause-levels : goal.print_lines-requires-clause-levels
print_lines-requires-clause-levels g c =
    let laid = c.layout.ensures ∙ rw c.unwrap.ensures at c.lay_out_into.ensures.laid_out in
    ap (λ (layout : TextLayout). length layout.levels) laid ∙ length-levels _ _ _ _ ∙ c.requires.units

pub returns-clause-printed : goal.returns-clause-printed
returns-clause-printed g c =
    let text = c.args.text.now in
    let laid = c.layout.ensures ∙ rw c.unwrap.ensures at c.lay_out_into.ensures.laid_out in
    let made = rw c.unwrap-breaks.ensures at c.new.ensures in
    let broken = ap (λ (breaks : BreaksView). layout_of standard text.units.now c.args.direction breaks.positions)
    made.0 in
    let at = ap (λ positions. layout_of standard text.units.now c.args.direction positions) (c.deref.ensures.value ∙
    c.in_ok-positions.ensures.breaks) in
    subst (λ (layout : TextLayout). Appends (g.W.Write.contents c.args.w.now) (g.W.Write.contents c.print_lines.new.w)
    (reorder_text (mirror_by text.mirrors.now) text.chars.now text.units.now layout)) (laid ∙ broken ∙
    at) c.in_ok-print_lines.ensures.written

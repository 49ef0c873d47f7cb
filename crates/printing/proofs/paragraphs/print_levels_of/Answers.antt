use Rattle.std.proofs.Common.{◌∙◌, ◌<◌, ap, arith, length, subst, get_or}
use Rattle.std.specs.Io.KnownBytes.{Appends}
use Rattle.units.specs.Layout.{TextLayout, layout_of}
use Rattle.units.specs.Limits.{standard}
use Rattle.lines.specs.LineBreaks.{BreaksView}
use Rattle.lines.proofs.Lengths.{length-levels}
use Rattle.printing.specs.Following.{one_paragraph_after}
use Rattle.printing.proofs.Appending.{Appends-to}
use Rattle.printing.proofs.HeadPrinted.{paragraph_printed}
use Rattle.printing.proofs.paragraphs.print_levels_of.Goals as goal

pub print_one_paragraph-requires-clause-levels : goal.print_one_paragraph-requires-clause-levels
print_one_paragraph-requires-clause-levels g c =
    let laid = c.layout.ensures ∙ rw c.unwrap.ensures at c.lay_out_into.ensures.laid_out in
    ap (λ (layout : TextLayout). length layout.levels) laid ∙ length-levels _ _ _ _ ∙ c.requires.units

pub returns-clause-printed : goal.returns-clause-printed
returns-clause-printed g c =
    let laid = c.layout.ensures ∙ rw c.unwrap.ensures at c.lay_out_into.ensures.laid_out in
    let none = rw c.unwrap-breaks.ensures at c.new.ensures in
    let broken = ap (λ (breaks : BreaksView). layout_of standard c.args.units.now c.args.direction breaks.positions)
    none.0 in
    let some : 0 < length c.args.units.now = omega (arith, c.requires.units, c.requires.some) in
    let same = paragraph_printed c.args.passed c.args.chars.now c.args.units.now c.args.direction some c.requires.one
    c.requires.units in
    Appends-to _ _ _ _ same
    (subst (λ (layout : TextLayout).
    Appends (g.W.Write.contents c.args.w.now) (g.W.Write.contents c.print_one_paragraph.new.w)
    (one_paragraph_after c.args.passed (get_or layout.paras 0 0) c.args.chars.now c.args.units.now layout.levels))
    (laid ∙ broken) c.in_ok-print_one_paragraph.ensures.written)

use Rattle.std.proofs.Common.{[], drop}
use Rattle.ucdfiles.specs.Tables.{mirror_by}
use Rattle.lines.specs.Layouts.{view_of}
use Rattle.printing.specs.ReorderText.{shown_line_text}
use Rattle.printing.specs.WaitingBytes.{with_waiting}
use Rattle.printing.proofs.Passing.{HasPrintedUpTo}
use Rattle.printing.proofs.reorder_text.print_lines.Given as goal

abbrev pub invariant-loop-k : goal.invariant-loop-k
invariant-loop-k g l =
    let view = view_of l.layout in
    let images = mirror_by l.text.mirrors.now in
    HasPrintedUpTo (with_waiting (g.W.Write.contents l.initial.w) []) (with_waiting (g.W.Write.contents l.w) l.waiting)
    (shown_line_text images l.text.chars.now l.text.units.now view.levels) view.lines (drop l.k view.lines)

use Rattle.std.specs.Prelude.{slice_index_or}
use Rattle.std.specs.Iterator.Adapters.{zip_first, zip_second}
use Rattle.std.specs.Slice.Iter.{iter_rest}
use Rattle.ucdfiles.specs.Tables.{mirror_by}
use Rattle.lines.specs.Layouts.{view_of, no_line}
use Rattle.lines.specs.Showing.{remaining_shown}
use Rattle.printing.specs.WaitingBytes.{with_waiting}
use Rattle.printing.proofs.Showing.{HasShown}
use Rattle.printing.proofs.reorder_text.print_line.Given as goal

abbrev pub invariant-loop-position : goal.invariant-loop-position
invariant-loop-position g l =
    let view = view_of l.fn.layout in
    HasShown (mirror_by l.fn.text.mirrors.now) view.levels l.fn.text.chars.now l.fn.text.units.now
    (with_waiting (g.W.Write.contents l.initial.w) l.initial.waiting) (with_waiting (g.W.Write.contents l.w) l.waiting)
    (slice_index_or view.lines l.fn.k no_line).order (iter_rest (zip_first l.position-iterator))
    (remaining_shown (zip_second l.position-iterator))

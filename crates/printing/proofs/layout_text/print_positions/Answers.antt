use Rattle.std.proofs.Common.{◌≡◌, ◌<◌, None, length, arith, ◌∙◌, slice_index, slice_index_or}
use Rattle.std.proofs.lemmas.List.{get_or_default}
use Rattle.printing.proofs.Printing.{nothing_printed, one_more_printed}
use Rattle.printing.proofs.layout_text.print_positions.Goals as goal

pub loop-p-init : goal.loop-p-init
loop-p-init g c = nothing_printed _ _ _

pub loop-p-preserved : goal.loop-p-preserved
loop-p-preserved g c =
    let in_chars : c.loop-p.p < length c.args.chars.now = omega arith in
    let in_levels : c.loop-p.p < length c.args.levels.now = omega arith in
    let character : c.index-chars-p.result ≡ slice_index c.args.chars.now c.loop-p.p =
    c.index-chars-p.is ∙ get_or_default _ _ _ 0 in_chars in
    let level : c.index-levels-p.result ≡ slice_index_or c.args.levels.now c.loop-p.p None =
    c.index-levels-p.is ∙ get_or_default _ _ _ None in_levels in
    let line = rw (character, level) at c.in_ok-print_position.ensures.written in
    one_more_printed _ _ _ _ _ _ (omega arith) c.loop-p.invariant line

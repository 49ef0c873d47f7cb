use Rattle.std.proofs.Common.{◌≡◌, ◌∙◌, ap, slice_index_or}
use Rattle.units.specs.Isolates.{level_of_para}
use Rattle.lines.specs.Layouts.{view_of}
use Rattle.printing.specs.LevelsText.{paragraph_text}
use Rattle.printing.proofs.Appending.{Appends-to, Appends-then}
use Rattle.printing.proofs.layout_text.print_one_paragraph.Goals as goal

pub returns-clause-written : goal.returns-clause-written
returns-clause-written g c =
    let view = view_of c.args.layout.now in
    let level : level_of_para c.level_of_first.result ≡ slice_index_or view.paras 0 0 =
    c.level_of_first.ensures ∙ ap (λ paras. slice_index_or paras 0 0) c.para_levels.ensures in
    let printed = c.in_ok-print_paragraph.ensures.written in
    let head = Appends-to _ _ _ _ (ap (paragraph_text c.args.passed.paragraphs) level) printed in
    let levels = c.levels.ensures in
    Appends-then _ _ _ _ _ _ head (rw levels at c.print_positions.ensures.written)

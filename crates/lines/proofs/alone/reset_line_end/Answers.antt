use Rattle.std.proofs.Common.{◌≡◌, [], ◌∷◌, ap, ◌∙◌, map}
use Rattle.std.specs.Prelude.{slice_range}
use Rattle.units.specs.Classes.{classes_of}
use Rattle.units.specs.Isolates.{level_of_para}
use Rattle.units.specs.Reordering.{after_resets}
use Rattle.lines.specs.LineBreaks.{BreaksView}
use Rattle.lines.proofs.LineAlone.{line_in_paragraph, line_reset_alone}
use Rattle.lines.proofs.LineEndAlone.{ends_alone, no_segments_alone}
use Rattle.lines.proofs.alone.reset_line_end.Goals as goal

pub reset_unsegmented-requires-clause-none : goal.reset_unsegmented-requires-clause-none
reset_unsegmented-requires-clause-none g c =
    no_segments_alone c.args.text.now c.args.line.start c.args.line.end c.requires.within c.requires.none

pub reset_unsegmented-requires-clause-ends : goal.reset_unsegmented-requires-clause-ends
reset_unsegmented-requires-clause-ends g c =
    ends_alone c.args.text.now c.args.line.start c.args.line.end c.requires.forward c.requires.within
    c.requires.paragraph

pub reset_unsegmented-requires-clause-paras : goal.reset_unsegmented-requires-clause-paras
reset_unsegmented-requires-clause-paras g c =
    line_in_paragraph c.args.text.now c.args.line.start c.args.line.end c.requires.forward c.requires.within
    c.requires.paragraph

pub returns-clause-levels : goal.returns-clause-levels
returns-clause-levels g c breaks paras all line has len is =
    let none = rw c.unwrap-breaks.ensures at c.new.ensures in
    let at : c.unwrap-breaks.result.positions ≡ [] = ap (λ (b : BreaksView). b.positions) none.0 in
    let own = classes_of (slice_range c.args.text.now c.args.line.start c.args.line.end) in
    let value = level_of_para c.args.level in
    c.reset_unsegmented.ensures.levels
    ∙ ap (λ bs. after_resets own bs (value ∷ []) c.args.levels.now) at
    ∙ line_reset_alone c.args.text.now breaks (map level_of_para paras) all c.args.levels.now c.args.line.start
    c.args.line.end value line c.requires.within len is has

use Rattle.std.proofs.Common.{◌∙◌}
use Rattle.std.proofs.lemmas.Iterator.{text_from_collect}
use Rattle.std.proofs.lemmas.Iterator.Consumers.{YieldsList-from_first}
use Rattle.lines.specs.Showing.{remaining_shown}
use Rattle.room.proofs.ShownLines.{shown_alike}
use Rattle.room.proofs.text.Text.shown_line.Goals as goal

pub returns : goal.returns
returns c =
    let shown = c.shown.ensures ∙
    shown_alike _ _ _ _ _ _ _ c.mirrors.ensures c.layout-layout.ensures c.deref.ensures.value in
    text_from_collect _ c.collect.ensures.ran (YieldsList-from_first (λ x. x) remaining_shown _ shown)

use Rattle.std.proofs.Common.{◌≡◌, List, [], ◌∷◌, ◌++◌, ◌+◌, take, sym, ap, subst, ◌∙◌}
use Rattle.std.proofs.lemmas.List.{take_more}
use Rattle.ucdfiles.specs.declared.span.Span.{Span}
use Rattle.ucdfiles.proofs.Painting.{IsPaintedBy, painted-more}
use Rattle.ucdfiles.proofs.two_stage.paint_all.Goals as goal

pub loop-span-preserved : goal.loop-span-preserved
loop-span-preserved g c =
    let spans = c.args.spans.now in
    let i = c.loop-span.span-index in
    let span = c.span-item.result in
    let more : take i spans ++ span ∷ [] ≡ take (i + 1) spans =
    ap (λ (s : Span g.row.V.Denot). take i spans ++ s ∷ []) c.span-item.is ∙
    sym (take_more spans i span c.loop-span-test.true) in
    let P : List (Span g.row.V.Denot) → Type 0 = λ ss. IsPaintedBy c.args.first ss c.args.block.now c.paint.new.block in
    subst P more (painted-more c.args.first (take i spans) span c.args.block.now c.loop-span.block c.paint.new.block
    c.loop-span.invariant c.paint.ensures.len c.paint.ensures.values)

use Rattle.std.proofs.Common.{◌≡◌, ℕ, Option, Some, List, map, sym, ap, subst, ◌∙◌, arith}
use Rattle.std.proofs.lemmas.List.{take_all}
use Rattle.ucdfiles.specs.declared.span.Span.{Span}
use Rattle.ucdfiles.specs.Spans.{IsRising, revalued}
use Rattle.ucdfiles.proofs.Rising.{rising-revalued}
use Rattle.ucdfiles.proofs.mirror_table.images.Goals as goal

pub returns-clause-rising : goal.returns-clause-rising
returns-clause-rising c =
    let spans = c.args.spans.now in
    let image = λ (c : ℕ). Some c in
    let all : c.loop-span.images.items ≡ map (revalued image) spans = c.loop-span.invariant ∙
    ap (map (revalued image)) (take_all c.loop-span.span-index spans (omega arith)) in
    let P : List (Span (Option ℕ)) → Type 0 = λ ss. IsRising ss in
    subst P (sym all) (rising-revalued image 0 spans c.requires)

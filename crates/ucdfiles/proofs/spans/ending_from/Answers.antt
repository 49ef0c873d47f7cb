use Rattle.std.proofs.Common.{◌∙◌, ◌-◌, length, drop, ap, arith}
use Rattle.std.specs.List.{find}
use Rattle.std.proofs.lemmas.List.{take_all, length-drop}
use Rattle.ucdfiles.specs.Spans.{holds}
use Rattle.ucdfiles.proofs.Rising.{find-drop}
use Rattle.ucdfiles.proofs.spans.ending_from.Goals as goal

pub returns-clause-finds : goal.returns-clause-finds
returns-clause-finds g c code low =
    let rs = c.args.spans.now in
    let n = c.ended_before-ended.result in
    ap (find (holds code)) (take_all (length rs - n) (drop n rs) (omega (arith, length-drop n rs))) ∙
    find-drop rs n code (λ k d a b. omega (arith, c.ended_before-ended.ensures.below k d a b))

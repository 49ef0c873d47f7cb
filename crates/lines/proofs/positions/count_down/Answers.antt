use Rattle.std.proofs.Common.{◌≡◌, ◌<◌, ◌-◌, ◌∙◌, length, sym, ap, arith, get_or}
use Rattle.std.specs.Prelude.{reverse}
use Rattle.std.proofs.lemmas.List.{ext_get_or, get_or-reverse, length-reverse}
use Rattle.units.specs.Positions.{positions_from}
use Rattle.units.proofs.Positions.{length-positions_from, get_or-positions_from}
use Rattle.lines.proofs.positions.count_down.Goals as goal

pub returns-clause-order : goal.returns-clause-order
returns-clause-order g c =
    let l = c.loop-index in
    let n = length c.args.places.now in
    let all = positions_from (c.args.end - n) n in
    let long = length-positions_from (c.args.end - n) n in
    let turned = length-reverse all in
    ext_get_or 0 l.places (reverse all) (omega (arith, long, turned, l.auto.places))
    (λ k h.
    let lt : k < n = omega (arith, l.auto.places) in
    let same : length all - 1 - k ≡ n - 1 - k = omega (arith, long) in
    let read = get_or-positions_from (c.args.end - n) n (n - 1 - k) 0 (omega arith) in
    l.invariant k (omega arith)
    ∙ omega (arith, read, c.requires)
    ∙ sym (get_or-reverse all k 0 (omega (arith, long)) ∙ ap (λ i. get_or all i 0) same ∙ read))

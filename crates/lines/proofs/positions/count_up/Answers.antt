use Rattle.std.proofs.Common.{◌<◌, ◌∙◌, length, sym, arith}
use Rattle.std.proofs.lemmas.List.{ext_get_or}
use Rattle.units.specs.Positions.{positions_from}
use Rattle.units.proofs.Positions.{length-positions_from, get_or-positions_from}
use Rattle.lines.proofs.positions.count_up.Goals as goal

pub returns-clause-order : goal.returns-clause-order
returns-clause-order g c =
    let l = c.loop-index in
    let n = length c.args.places.now in
    let long = length-positions_from c.args.start n in
    ext_get_or 0 l.places (positions_from c.args.start n) (omega (arith, long, l.auto.places))
    (λ k h.
    let lt : k < n = omega (arith, l.auto.places) in
    l.invariant k (omega arith) ∙ sym (get_or-positions_from c.args.start n k 0 lt))

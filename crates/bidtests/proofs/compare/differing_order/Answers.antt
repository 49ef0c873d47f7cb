use Rattle.std.proofs.Common.{◌≡◌, drop, arith, sym, ◌∙◌, ap, flat_map, [], length-drop}
use Rattle.std.specs.Prelude.{nat_eq}
use Rattle.units.specs.Layout.{LineLayout}
use Rattle.lines.specs.Layouts.{view_of}
use Rattle.bidtests.specs.Verdicts.{first_difference}
use Rattle.bidtests.proofs.Differences.{no-orders, difference-longer, difference-last}
use Rattle.bidtests.proofs.compare.differing_order.Goals as goal

pub returns-then-at-claimed : goal.returns-then-at-claimed
returns-then-at-claimed c =
    let at = c.loop-k.at in
    let remaining = drop at c.args.claimed.now in
    let lines = (view_of c.args.layout.now).lines in
    let none : flat_map (λ (l : LineLayout). l.order) (drop c.loop-k.k lines) ≡ [] =
    no-orders lines c.loop-k.k (omega (arith, c.line_count-k-end.ensures)) in
    difference-longer remaining at (omega (arith, length-drop at c.args.claimed.now)) ∙
    sym (c.loop-k.invariant.rest ∙ ap (λ ys. first_difference nat_eq remaining ys at) none)

pub returns-else-at-claimed : goal.returns-else-at-claimed
returns-else-at-claimed c =
    let at = c.loop-k.at in
    let remaining = drop at c.args.claimed.now in
    let lines = (view_of c.args.layout.now).lines in
    let none : flat_map (λ (l : LineLayout). l.order) (drop c.loop-k.k lines) ≡ [] =
    no-orders lines c.loop-k.k (omega (arith, c.line_count-k-end.ensures)) in
    difference-last remaining at (omega (arith, length-drop at c.args.claimed.now)) ∙
    sym (c.loop-k.invariant.rest ∙ ap (λ ys. first_difference nat_eq remaining ys at) none)

use Rattle.std.proofs.Common.{◌≡◌, ◌++◌, ◌+◌, drop, flat_map, get_or, ap, ◌∙◌, arith, refl}
use Rattle.std.specs.List.{slice_get}
use Rattle.units.specs.Layout.{LineLayout}
use Rattle.lines.specs.Layouts.{view_of, no_line}
use Rattle.report.proofs.Joined.{joined-within, joined-following, orders-from}
use Rattle.report.proofs.row_cases.position_in.Goals as goal

pub returns-then-remaining-order : goal.returns-then-remaining-order
returns-then-remaining-order c =
    let lines = (view_of c.args.layout.now).lines in
    let k = c.loop-k.k in
    let order : (get_or lines k no_line).order ≡ c.line.result.order.now =
    ap (λ (l : LineLayout). l.order) c.line.ensures.line.shows in
    let following = flat_map (λ (l : LineLayout). l.order) (drop (k + 1) lines) in
    let here : flat_map (λ (l : LineLayout). l.order) (drop k lines) ≡ c.line.result.order.now ++ following =
    orders-from lines k no_line (omega (arith, c.loop-k-test.true, c.line_count-k-end.ensures)) ∙
    ap (λ o. o ++ following) order in
    rw (
      c.loop-k.invariant,
      here,
      joined-within c.line.result.order.now following c.loop-k.remaining 0 (omega (arith, c.if-remaining-order.true)),
    )
    refl

pub loop-k-preserved : goal.loop-k-preserved
loop-k-preserved c =
    let lines = (view_of c.args.layout.now).lines in
    let k = c.loop-k.k in
    let order : (get_or lines k no_line).order ≡ c.line.result.order.now =
    ap (λ (l : LineLayout). l.order) c.line.ensures.line.shows in
    let following = flat_map (λ (l : LineLayout). l.order) (drop (k + 1) lines) in
    let here : flat_map (λ (l : LineLayout). l.order) (drop k lines) ≡ c.line.result.order.now ++ following =
    orders-from lines k no_line (omega (arith, c.loop-k-test.true, c.line_count-k-end.ensures)) ∙
    ap (λ o. o ++ following) order in
    c.loop-k.invariant ∙ ap (λ ps. slice_get ps c.loop-k.remaining) here ∙
    joined-following c.line.result.order.now following c.loop-k.remaining (omega (
      arith,
      c.if-remaining-order.false,
    ))

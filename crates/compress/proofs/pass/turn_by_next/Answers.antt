use Rattle.std.proofs.Common.{ap, sym, ◌∙◌, ◌≡◌, ◌+◌, List}
use Rattle.units.specs.declared.bracket.Unit.{Unit as BidiUnit}
use Rattle.units.specs.declared.class.Class.{Class as BidiClass}
use Rattle.compress.specs.Laid.{stack_of, class_after}
use Rattle.compress.specs.Squeeze.{Stack, first_unit, next_for, popped, added}
use Rattle.compress.proofs.Counting.{at, next_at, first_remaining, removed_between}
use Rattle.compress.proofs.pass.turn_by_next.Goals as goal

pub returns-clause-stack : goal.returns-clause-stack
returns-clause-stack g c = λ state.
    let us : List BidiUnit = c.args.para.now in
    let d : BidiClass = c.args.known.direction in
    let old : Stack = stack_of us c.args.chosen.now c.args.starts.now c.args.m c.args.p in
    let after = c.next_remaining-end.ensures in
    let tail = (removed_between us (c.args.p + 1) c.next_remaining-end.result after.from_start after.within after.removed).1 in
    let value : c.next_for-unit.result ≡ next_for d old (at us c.args.p) (class_after us c.args.p) =
    c.next_for-unit.ensures d us c.args.starts.now c.args.p state.strong
    ∙ ap (λ (n : BidiClass). next_for d old (at us c.args.p) n)
    (c.class_or_l.ensures
    ∙ ap (λ (u : BidiUnit). u.class) (sym (first_remaining us c.next_remaining-end.result after.within after.here) ∙ ap first_unit tail)) in
    let next = next_at us c.args.p c.next_remaining-end.result c.requires.here state.apart.remains after.from_start after.within after.removed in
    let less = c.popped-count.ensures.laid us c.args.starts.now c.args.p state.laid in
    c.added-m.ensures.stack us c.next_remaining-end.result less next
    ∙ ap (λ (st : Stack). added d st c.next_for-unit.result) (c.popped-count.ensures.stack us c.args.starts.now c.args.p state.laid)
    ∙ ap (λ (v : BidiUnit). added d (popped old v) v) value

pub returns-clause-laid : goal.returns-clause-laid
returns-clause-laid g c = λ state.
    let us : List BidiUnit = c.args.para.now in
    let after = c.next_remaining-end.ensures in
    c.added-m.ensures.laid us c.next_remaining-end.result (c.popped-count.ensures.laid us c.args.starts.now c.args.p state.laid)
    (next_at us c.args.p c.next_remaining-end.result c.requires.here state.apart.remains after.from_start after.within after.removed)

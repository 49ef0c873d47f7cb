use Rattle.std.proofs.Common.{arith, ap, sym, ◌∙◌, ◌+◌, ℕ, List}
use Rattle.units.specs.declared.bracket.Unit.{Unit as BidiUnit}
use Rattle.compress.specs.Laid.{stack_of, class_after, IsNextAt}
use Rattle.compress.specs.Squeeze.{Stack, popped, added}
use Rattle.compress.proofs.Counting.{at, next_at}
use Rattle.compress.proofs.Passing.{next_for-plain, next_for-unchanged, strong_plain}
use Rattle.compress.proofs.pass.turn.Goals as goal

pub returns-then-is_strong-clause-stack : goal.returns-then-is_strong-clause-stack
returns-then-is_strong-clause-stack g c = λ state.
    let us : List BidiUnit = c.args.para.now in
    let p : ℕ = c.args.p in
    let old : Stack = stack_of us c.args.chosen.now c.args.starts.now c.args.m p in
    let next : IsNextAt us p (p + 1) = next_at us p (p + 1) c.requires.here state.apart.remains (omega arith) (omega (arith, c.requires.here)) (λ q a b. absurd (omega arith)) in
    c.turn_letter-m.ensures.stack us (p + 1) state.laid next state.apart
    ∙ ap (λ (v : BidiUnit). added c.args.known.direction (popped old v) v)
    (next_for-plain c.args.known.direction old (at us p) (class_after us p) (strong_plain (at us p).class (sym c.is_strong.ensures ∙ c.if-is_strong.true)))

pub returns-then-is_strong-clause-laid : goal.returns-then-is_strong-clause-laid
returns-then-is_strong-clause-laid g c = λ state.
    let us : List BidiUnit = c.args.para.now in
    let p : ℕ = c.args.p in
    c.turn_letter-m.ensures.laid us (p + 1) state.laid
    (next_at us p (p + 1) c.requires.here state.apart.remains (omega arith) (omega (arith, c.requires.here)) (λ q a b. absurd (omega arith)))

pub returns-clause-stack : goal.returns-clause-stack
returns-clause-stack g c = λ state.
    let us : List BidiUnit = c.args.para.now in
    let p : ℕ = c.args.p in
    let old : Stack = stack_of us c.args.chosen.now c.args.starts.now c.args.m p in
    let next : IsNextAt us p (p + 1) = next_at us p (p + 1) c.requires.here state.apart.remains (omega arith) (omega (arith, c.requires.here)) (λ q a b. absurd (omega arith)) in
    c.turn_other-m.ensures.stack us (p + 1) state.laid next state.apart
    ∙ ap (λ (v : BidiUnit). added c.args.known.direction (popped old v) v)
    (next_for-unchanged c.args.known.direction old (at us p) (class_after us p)
    c.args.known.strong state.strong (sym c.needs_next.ensures ∙ c.if-needs_next.false))

pub returns-clause-laid : goal.returns-clause-laid
returns-clause-laid g c = λ state.
    let us : List BidiUnit = c.args.para.now in
    let p : ℕ = c.args.p in
    c.turn_other-m.ensures.laid us (p + 1) state.laid
    (next_at us p (p + 1) c.requires.here state.apart.remains (omega arith) (omega (arith, c.requires.here)) (λ q a b. absurd (omega arith)))

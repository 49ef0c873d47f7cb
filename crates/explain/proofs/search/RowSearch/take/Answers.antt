use Rattle.std.proofs.Common.{◌≡◌, ◌-◌, ◌++◌, ℕ, List, [], Err, arith, drop, length, subst, sym, take, ◌∙◌}
use Rattle.std.proofs.lemmas.Bool.{eqb-true}
use Rattle.std.proofs.lemmas.List.{length-drop, nil_from_length, take_all}
use Rattle.explain.proofs.SearchedBytes.{HasTaken, all-taken, comes-fault, goes-on, more-taken, nothing-taken, row-following, decided-following}
use Rattle.explain.proofs.search.RowSearch.take.Goals as goal

pub loop-rest-init : goal.loop-rest-init
loop-rest-init c = nothing-taken c.args.kind c.args.wanted c.args.self.now c.args.piece.now

pub returns-in_err-used-clause-comes : goal.returns-in_err-used-clause-comes
returns-in_err-used-clause-comes c = λ b h.
    comes-fault c.args.kind c.args.wanted c.take_next.new.self (b ++
    c.args.piece.now) _ c.in_err-used.field-0.0 c.from_residual.ensures.1
    (decided-following c.args.kind c.args.wanted c.args.self.now c.loop-rest.self c.take_next.new.self c.args.piece.now
    c.loop-rest.rest.now c.loop-rest.invariant
    (Err c.in_err-used.field-0.0) c.in_err-used.ensures.comes b h)

pub returns-then-is_some-clause-comes : goal.returns-then-is_some-clause-comes
returns-then-is_some-clause-comes c =
    row-following c.args.kind c.args.wanted c.args.self.now c.loop-rest.self c.take_next.new.self c.args.piece.now
    c.loop-rest.rest.now c.in_ok-used.used c.loop-rest.invariant
    c.in_ok-used.row (sym c.is_some.ensures ∙ c.if-is_some.true) c.in_ok-used.ensures.comes

pub loop-rest-preserved : goal.loop-rest-preserved
loop-rest-preserved c =
    let rest = c.loop-rest.rest.now in
    let used = c.in_ok-used.used in
    let all : take (length rest - used) (drop used rest) ≡ drop used rest =
    take_all (length rest - used) (drop used rest) (omega (arith, length-drop used rest)) in
    subst (λ (following : List ℕ).
    HasTaken c.args.kind c.args.wanted c.args.self.now c.take_next.new.self c.args.piece.now following) (sym all)
    (more-taken c.args.kind c.args.wanted c.args.self.now c.loop-rest.self c.take_next.new.self c.args.piece.now rest
    c.loop-rest.invariant used
    (λ b o. goes-on c.args.kind c.args.wanted c.take_next.new.self (b ++ take used rest) c.in_ok-used.row
    (sym c.is_some.ensures ∙ c.if-is_some.false) (c.in_ok-used.ensures.comes b o)))

pub returns-clause-comes : goal.returns-clause-comes
returns-clause-comes c = λ b h.
    let none : c.loop-rest.rest.now ≡ [] =
    nil_from_length c.loop-rest.rest.now (eqb-true _ _ (sym c.loop-rest-test.ensures)) in
    all-taken c.args.kind c.args.wanted c.args.self.now c.loop-rest.self c.args.piece.now c.loop-rest.rest.now
    c.loop-rest.invariant none b h

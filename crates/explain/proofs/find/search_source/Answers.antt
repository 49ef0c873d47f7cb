use Rattle.std.proofs.Common.{rules, ◌≡◌, ◌++◌, ℕ, List, Ok, Err, ap, append-nil, subst, take, ◌∙◌}
use Rattle.explain.proofs.SearchedBytes.{finds-ended, finds-fault, on-unsettled}
use Rattle.explain.specs.Searching.{row_in}
use Rattle.explain.proofs.find.search_source.Goals as goal

pub returns-in-Err-clause-found : goal.returns-in-Err-clause-found
returns-in-Err-clause-found g c =
    let inv = c.loop-search.invariant in
    let gave = g.met.S.ByteSource.gives_joined _ _ _ _ _ inv.1 c.in-Err.ensures.none_given in
    let failed : g.S.ByteSource.failures c.read.new.self ≡ 1 = search rules in (
      inv.0,
      subst (λ (xs : List ℕ). g.S.ByteSource.gives c.args.source.now xs c.read.new.self) (append-nil inv.0) gave,
      (failed, on-unsettled c.args.kind c.args.number _ inv.0 inv.2),
    )

pub returns-in_err-finish-in-Ok-eq0-clause-found : goal.returns-in_err-finish-in-Ok-eq0-clause-found
returns-in_err-finish-in-Ok-eq0-clause-found g c =
    let inv = c.loop-search.invariant in
    let none : inv.0 ++ take c.in-Ok-eq0.field-0 c.read.new.buf ≡ inv.0 =
    ap (λ k. inv.0 ++ take k c.read.new.buf) c.in-Ok-eq0.field-0-test ∙ append-nil inv.0 in
    let gave = g.met.S.ByteSource.gives_joined _ _ _ _ _ inv.1 c.in-Ok-eq0.ensures.given in (
      inv.0,
      subst (λ (xs : List ℕ). g.S.ByteSource.gives c.args.source.now xs c.read.new.self) none gave,
      finds-fault _ _ c.args.kind c.args.number inv.0 c.finish.new.self.rows _ c.in_err-finish-in-Ok-eq0.field-0.0
          c.from_residual.ensures.1
          (finds-ended (g.S.ByteSource.failures c.read.new.self ≡
          1) _ c.args.kind c.args.number inv.0 c.finish.new.self.rows
          (c.in-Ok-eq0.ensures.end c.in-Ok-eq0.field-0-test)
          (Err c.in_err-finish-in-Ok-eq0.field-0.0) (c.in_err-finish-in-Ok-eq0.ensures.ends inv.0 inv.2)),
    )

pub returns-in-Ok-eq0-clause-found : goal.returns-in-Ok-eq0-clause-found
returns-in-Ok-eq0-clause-found g c =
    let inv = c.loop-search.invariant in
    let none : inv.0 ++ take c.in-Ok-eq0.field-0 c.read.new.buf ≡ inv.0 =
    ap (λ k. inv.0 ++ take k c.read.new.buf) c.in-Ok-eq0.field-0-test ∙ append-nil inv.0 in
    let gave = g.met.S.ByteSource.gives_joined _ _ _ _ _ inv.1 c.in-Ok-eq0.ensures.given in (
      inv.0,
      subst (λ (xs : List ℕ). g.S.ByteSource.gives c.args.source.now xs c.read.new.self) none gave,
      finds-ended (g.S.ByteSource.failures c.read.new.self ≡ 1) _ c.args.kind c.args.number inv.0 c.finish.new.self.rows
          (c.in-Ok-eq0.ensures.end c.in-Ok-eq0.field-0-test)
          (Ok (row_in c.finish.new.self.rows c.in_ok-finish-in-Ok-eq0.field-0))
          (c.in_ok-finish-in-Ok-eq0.ensures.ends inv.0 inv.2),
    )

pub returns-in_err-asked-in-Ok-clause-found : goal.returns-in_err-asked-in-Ok-clause-found
returns-in_err-asked-in-Ok-clause-found g c =
    let inv = c.loop-search.invariant in
    let given = inv.0 ++ take c.in-Ok.n c.read.new.buf in (
      given,
      g.met.S.ByteSource.gives_joined _ _ _ _ _ inv.1 c.in-Ok.ensures.given,
      finds-fault (g.S.ByteSource.failures c.read.new.self ≡ 1) (g.S.ByteSource.ended c.read.new.self) c.args.kind
          c.args.number given c.take.new.self.rows _
          c.in_err-asked-in-Ok.field-0.0 c.from_residual-in_err-asked-in-Ok.ensures.1
          (λ more none. c.in_err-asked-in-Ok.ensures.comes inv.0 inv.2 more),
    )

pub returns-in-Some-clause-found : goal.returns-in-Some-clause-found
returns-in-Some-clause-found g c =
    let inv = c.loop-search.invariant in
    let comes = rw c.in-Some.is at (c.in_ok-asked-in-Ok.ensures.comes inv.0 inv.2) in (
      inv.0 ++ take c.in-Ok.n c.read.new.buf,
      g.met.S.ByteSource.gives_joined _ _ _ _ _ inv.1 c.in-Ok.ensures.given,
      λ more none. comes more,
    )

pub loop-search-preserved : goal.loop-search-preserved
loop-search-preserved g c =
    let inv = c.loop-search.invariant in (
      inv.0 ++ take c.in-Ok.n c.read.new.buf,
      g.met.S.ByteSource.gives_joined _ _ _ _ _ inv.1 c.in-Ok.ensures.given,
      rw c.in_default.is at (c.in_ok-asked-in-Ok.ensures.comes inv.0 inv.2),
    )

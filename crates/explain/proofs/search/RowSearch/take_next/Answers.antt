use Rattle.std.proofs.Common.{◌≤◌, arith, sym, subst}
use Rattle.units.specs.Lines.{most_counted}
use Rattle.explain.specs.Searching.{Searching, SearchesOn}
use Rattle.explain.proofs.SearchedBytes.{comes-by, rejected-by, steps-fault}
use Rattle.explain.proofs.search.RowSearch.take_next.Goals as goal

pub returns-in_err-row-clause-comes : goal.returns-in_err-row-clause-comes
returns-in_err-row-clause-comes c = λ b h.
    let kind = c.args.kind in
    let inside = c.self.inside in
    let most : c.args.wanted ≤ most_counted = omega (arith, c.ranges.wanted.fits) in
    let old : Searching = record { cutting = inside.splitter; rows = inside.rows } in
    let new : Searching = record { cutting = c.take.follows.lender-at-none; rows = c.take_cut.new.rows } in
    let o : SearchesOn kind c.args.wanted old b =
    subst (λ (s : Searching). SearchesOn kind c.args.wanted s b) (sym c.self.view_is) h in
    steps-fault kind c.args.wanted new b c.args.piece.now _ _ c.from_residual.ensures.1
    (rejected-by kind c.args.wanted most old new b c.args.piece.now c.take.result.0 o c.take.ensures.used
    (c.take.ensures.through b o.lines o.rest o.splitter o.cut)
    (c.take.follows.holds-at-none b o.splitter) c.take.result.1
    (c.take.ensures.outcome b o.splitter) _ c.in_err-row.ensures.says)

pub returns-clause-comes : goal.returns-clause-comes
returns-clause-comes c = λ b h.
    let kind = c.args.kind in
    let inside = c.self.inside in
    let most : c.args.wanted ≤ most_counted = omega (arith, c.ranges.wanted.fits) in
    let old : Searching = record { cutting = inside.splitter; rows = inside.rows } in
    let new : Searching = record { cutting = c.take.follows.lender-at-none; rows = c.take_cut.new.rows } in
    let o : SearchesOn kind c.args.wanted old b =
    subst (λ (s : Searching). SearchesOn kind c.args.wanted s b) (sym c.self.view_is) h in
    comes-by kind c.args.wanted most old new b c.args.piece.now c.take.result.0 o c.take.ensures.used
    (c.take.ensures.through b o.lines o.rest o.splitter o.cut)
    (c.take.follows.holds-at-none b o.splitter) c.take.result.1
    (c.take.ensures.outcome b o.splitter) _ c.in_ok-row.ensures.says

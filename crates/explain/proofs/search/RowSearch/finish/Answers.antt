use Rattle.std.proofs.Common.{◌≤◌, arith, sym, subst}
use Rattle.units.specs.Lines.{most_counted}
use Rattle.explain.specs.Searching.{Searching, SearchesOn}
use Rattle.explain.proofs.SearchedBytes.{ends-last, ends-none}
use Rattle.explain.proofs.search.RowSearch.finish.Goals as goal

pub returns-in-None-clause-ends : goal.returns-in-None-clause-ends
returns-in-None-clause-ends c = λ b h.
    let kind = c.args.kind in
    let inside = c.self.inside in
    let most : c.args.wanted ≤ most_counted = omega (arith, c.ranges.wanted.fits) in
    let old : Searching = record { cutting = inside.splitter; rows = inside.rows } in
    let o : SearchesOn kind c.args.wanted old b =
    subst (λ (s : Searching). SearchesOn kind c.args.wanted s b) (sym c.self.view_is) h in
    ends-none kind c.args.wanted most old old b o (c.in-None.ensures.last b o.splitter)

pub returns-in-Some-clause-ends : goal.returns-in-Some-clause-ends
returns-in-Some-clause-ends c = λ b h.
    let kind = c.args.kind in
    let inside = c.self.inside in
    let most : c.args.wanted ≤ most_counted = omega (arith, c.ranges.wanted.fits) in
    let old : Searching = record { cutting = inside.splitter; rows = inside.rows } in
    let new : Searching = record { cutting = inside.splitter; rows = c.take_line.new.self } in
    let o : SearchesOn kind c.args.wanted old b =
    subst (λ (s : Searching). SearchesOn kind c.args.wanted s b) (sym c.self.view_is) h in
    ends-last kind c.args.wanted most old new b o c.in-Some.number c.in-Some.text
    (c.in-Some.ensures.last b o.splitter) c.take_line.result c.take_line.ensures.says c.of_last.result
    c.of_last.ensures

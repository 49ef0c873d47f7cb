use Rattle.std.proofs.Common.{arith, refl}
use Rattle.visual.proofs.NextRuns.{next_removed-is, next_shown-is}
use Rattle.visual.proofs.line_runs.RunsIterator.next.Goals as goal

pub returns-in-Some-clause-steps : goal.returns-in-Some-clause-steps
returns-in-Some-clause-steps c =
    let e = c.in-Some.ensures in
    next_removed-is c.args.self.now c.next_removed.new.self c.in-Some.run' e.line e.place e.closed e.given

pub returns-clause-steps : goal.returns-clause-steps
returns-clause-steps c =
    let e = c.in_default.ensures in
    let mid = c.next_removed.new.self in
    next_shown-is c.args.self.now mid _ c.run_from-run.result e.line e.place e.closed (e.pending refl)
    (mid.begins (omega (arith, mid.inside, c.if-self.false))) c.run_from-run.ensures.run c.run_from-run.ensures.some
    refl refl refl

use Rattle.std.proofs.Common.{◌++◌, ◌∷◌, [], arith, ◌∙◌}
use Rattle.visual.proofs.Converted.{converted-following, converted-len, converted-rest}
use Rattle.visual.proofs.Passed.{all_given, given_more, length_more}
use Rattle.room.proofs.RunLists.{run_within, written_run}
use Rattle.for_c.specs.LineRuns.{returned_run}
use Rattle.for_c.proofs.line_runs.put_runs.Goals as goal

pub loop-run-preserved : goal.loop-run-preserved
loop-run-preserved c =
    let i = c.loop-run.invariant in
    let runs = i.3.0 in
    let run = c.in-Some.run' in
    let n = length_more runs run in
    let len = converted-len c.loop-run.out c.put.new.out c.loop-run.count c.returned_run.result c.put.ensures in
    let put = converted-following c.loop-run.out c.put.new.out c.loop-run.count c.returned_run.result c.put.ensures in (
      tt,
      tt,
      len ∙ i.2,
      (
        runs ++ run ∷ [],
        given_more c.args.line.now runs c.loop-run.run-iterator run c.next.new.self i.3.1 c.in-Some.ensures.steps,
        omega (arith, n, i.3.2),
        written_run (returned_run c.args.room.now c.args.in_units) runs run c.loop-run.out c.put.new.out
            c.loop-run.count c.returned_run.result len c.returned_run.ensures put i.3.3,
        converted-rest c.args.out.now c.loop-run.out c.put.new.out c.loop-run.count c.returned_run.result c.put.ensures
            i.3.4,
      ),
    )

pub returned_run-requires-clause-forward : goal.returned_run-requires-clause-forward
returned_run-requires-clause-forward c =
    let i = c.loop-run.invariant in
    let w = run_within c.args.line.now i.3.0 c.loop-run.run-iterator c.in-Some.run' c.next.new.self c.requires.order
    i.3.1 c.in-Some.ensures.steps in
    omega (arith, w.forward, w.end, c.requires.inside)

pub returned_run-requires-clause-inside : goal.returned_run-requires-clause-inside
returned_run-requires-clause-inside c =
    let i = c.loop-run.invariant in
    let w = run_within c.args.line.now i.3.0 c.loop-run.run-iterator c.in-Some.run' c.next.new.self c.requires.order
    i.3.1 c.in-Some.ensures.steps in
    omega (arith, w.end, c.requires.inside)

pub returns-clause-runs : goal.returns-clause-runs
returns-clause-runs c =
    let i = c.loop-run.invariant in
    record {
      runs = i.3.0;
      are = all_given c.args.line.now i.3.0 c.loop-run.run-iterator i.3.1 c.in-None.ensures.steps c.requires.order;
      counted = i.3.2;
      written = i.3.3;
      following = i.3.4;
    }

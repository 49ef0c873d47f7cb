use Rattle.std.proofs.Common.{◌++◌, ◌∷◌, [], arith}
use Rattle.visual.proofs.Passed.{all_given, given_more, length_more}
use Rattle.visual.proofs.line_runs.run_count.Goals as goal

pub loop-run-preserved : goal.loop-run-preserved
loop-run-preserved c =
    let i = c.loop-run.invariant in
    let runs = i.2.0 in
    let run = c.in-Some._run in
    let n = length_more runs run in (
      tt,
      tt,
      (
        runs ++ run ∷ [],
        given_more c.args.line.now runs c.loop-run._run-iterator run c.next.new.self i.2.1 c.in-Some.ensures.steps,
        omega (arith, n, i.2.2),
      ),
    )

pub returns : goal.returns
returns c =
    let i = c.loop-run.invariant in
    record {
      runs = i.2.0;
      are = all_given c.args.line.now i.2.0 c.loop-run._run-iterator i.2.1 c.in-None.ensures.steps c.requires;
      counted = i.2.2;
    }

use Rattle.std.proofs.Common.{arith, ◌-◌}
use Rattle.compress.proofs.Runs.{run_last, remains}
use Rattle.compress.proofs.levels.write_last.Goals as goal

pub returns-clause-run : goal.returns-clause-run
returns-clause-run g c = λ us all n.
    run_last us c.args.end c.args.level.now c.args.level.now c.args.levels.now (omega (arith, c.requires.some)) c.requires.within
    (remains us (c.args.end - 1) c.args.level.now all (omega (arith, n, c.requires.some, c.requires.within)))

use Rattle.std.proofs.Common.{arith, ◌-◌}
use Rattle.compress.proofs.Runs.{run_joined, run_last}
use Rattle.compress.proofs.levels.write_run_remaining.Goals as goal

pub returns-clause-run : goal.returns-clause-run
returns-clause-run g c =
    run_joined c.args.para.now c.args.start (c.args.end - 1) c.args.end c.args.level.now c.args.levels.now _ c.write_remaining.new.levels
    (omega (arith, c.requires.some)) (omega (arith, c.requires.some))
    (run_last c.args.para.now c.args.end c.args.level.now c.level_at.result c.args.levels.now (omega (arith, c.requires.some))
    (omega (arith, c.requires.within, c.requires.levels)) c.level_at.ensures)
    c.write_remaining.ensures.run

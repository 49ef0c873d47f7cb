use Rattle.lines.proofs.RunLinking.{run_at}
use Rattle.lines.proofs.runs.link_from.Goals as goal

pub link_on-requires-clause-begun : goal.link_on-requires-clause-begun
link_on-requires-clause-begun g c =
    run_at c.args.line.now.levels.now c.args.runs.now c.link_run-run.new.runs c.args.position c.args.level
    c.args.line.now.end c.link_run-run.result c.requires.level c.link_run-run.ensures.begins

use Rattle.std.proofs.Common.{ap, ◌∙◌, ◌+◌}
use Rattle.compress.proofs.Runs.{run_eight_before, steps_back}
use Rattle.compress.proofs.levels.write_eight.Goals as goal

pub returns-clause-run : goal.returns-clause-run
returns-clause-run g c = λ us all n.
    run_eight_before us c.args.end c.args.level.now c.args.levels.now all n c.requires.eight c.requires.within

pub returns-clause-steps : goal.returns-clause-steps
returns-clause-steps g c =
    steps_back c.args.start c.args.end c.args.steps.now c.add.new.self c.requires.some c.requires.eight
    (c.add.ensures ∙ ap (λ e. c.args.steps.now + e) c.min.ensures)

use Rattle.std.proofs.Common.{◌∙◌, sym}
use Rattle.sequences.proofs.Backward.{run_successor}
use Rattle.sequences.proofs.linking.go_on.Goals as goal

pub returns-then-run_goes_on-clause-link : goal.returns-then-run_goes_on-clause-link
returns-then-run_goes_on-clause-link c =
    run_successor c.args.t.now c.args.p c.args.following.now.next c.args.following.now.level c.requires.known.next
    c.requires.known.level
    (sym c.run_goes_on.ensures ∙ c.if-run_goes_on.true)

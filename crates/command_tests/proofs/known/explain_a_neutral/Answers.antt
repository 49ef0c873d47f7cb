use Rattle.std.proofs.Common.{rules}
use Rattle.command_tests.proofs.KnownRuns.{explanation_done, when_ok}
use Rattle.command_tests.proofs.known.explain_a_neutral.Goals as goal

pub returns : goal.returns
returns c = λ ok.
    when_ok c.perform.result _ _ (search rules) c.perform.ensures.done (λ outcome done.
    explanation_done c.new.result c.args.classes _ _ outcome c.requires done)

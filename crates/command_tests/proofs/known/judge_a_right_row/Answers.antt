use Rattle.std.proofs.Common.{rules, ◌≡◌}
use Rattle.command_tests.proofs.KnownRuns.{row_files, verdict_done, when_ok}
use Rattle.command_tests.proofs.known.judge_a_right_row.Goals as goal

pub returns : goal.returns
returns c = λ ok.
    let files : c.with_input-files.result ≡ row_files = search rules in
    when_ok c.perform.result _ _ (search rules) c.perform.ensures.done (λ outcome done.
    verdict_done _ c.args.file _ _ outcome files c.requires done)

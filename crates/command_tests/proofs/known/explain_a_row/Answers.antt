use Rattle.std.proofs.Common.{rules, ◌≡◌}
use Rattle.command_tests.proofs.KnownRuns.{neutral_files, row_done, when_ok}
use Rattle.command_tests.proofs.known.explain_a_row.Goals as goal

pub returns : goal.returns
returns c = λ ok.
    let files : c.with_input-files.result ≡ neutral_files = search rules in
    when_ok c.perform.result _ _ (search rules) c.perform.ensures.done
    (λ outcome done. row_done _ c.args.line c.args.file _ _ outcome files c.requires.line c.requires.file done)

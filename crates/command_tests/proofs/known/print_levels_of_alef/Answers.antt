use Rattle.std.proofs.Common.{rules, ◌≡◌}
use Rattle.command_tests.proofs.KnownRuns.{alef_files, levels_done, when_ok}
use Rattle.command_tests.proofs.known.print_levels_of_alef.Goals as goal

pub returns : goal.returns
returns c = λ ok.
    let files : c.new.result ≡ alef_files = search rules in
    when_ok c.perform.result _ _ (search rules) c.perform.ensures.done (λ outcome done.
    levels_done _ c.args.tables c.args.file _ _ outcome files c.requires.tables c.requires.file done)

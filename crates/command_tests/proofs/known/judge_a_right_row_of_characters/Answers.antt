use Rattle.std.proofs.Common.{rules, ◌≡◌}
use Rattle.command_tests.proofs.KnownRuns.{character_files, characters_verdict_done, when_ok}
use Rattle.command_tests.proofs.known.judge_a_right_row_of_characters.Goals as goal

pub returns : goal.returns
returns c = λ ok.
    let files : c.new.result ≡ character_files = search rules in
    when_ok c.perform.result _ _ (search rules) c.perform.ensures.done (λ outcome done.
    characters_verdict_done _ c.args.tables c.args.file _ _ outcome files c.requires.tables c.requires.file done)

use Rattle.command.proofs.rejection.NoRequestDisplay.fmt.Goals as goal

pub returns-clause-writes : goal.returns-clause-writes
returns-clause-writes g c =
    let h = rw (c.words-words.ensures, c.usage-usage.ensures) at c.write.ensures.writes in
    h

use Rattle.bidtests.proofs.verdict_line.print_malformed.Goals as goal

pub returns : goal.returns
returns g c = rw (← c.name_of_cause-name.ensures) c.writeln.ensures.bytes

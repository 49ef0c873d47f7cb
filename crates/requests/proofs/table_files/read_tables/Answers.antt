use Rattle.std.proofs.Common.{rules}
use Rattle.requests.proofs.FirstFaults.{class_faultless, bracket_faultless}
use Rattle.requests.proofs.table_files.read_tables.Goals as goal

pub returns-in_err-brackets-clause-fault : goal.returns-in_err-brackets-clause-fault
returns-in_err-brackets-clause-fault g c =
    let classes = c.in_ok-classes.ensures.ok in
    let faultless = class_faultless classes.1 classes.4.faultless in search rules

pub returns-in_err-mirrors-clause-fault : goal.returns-in_err-mirrors-clause-fault
returns-in_err-mirrors-clause-fault g c =
    let classes = c.in_ok-classes.ensures.ok in
    let class_free = class_faultless classes.1 classes.4.faultless in
    let brackets = c.in_ok-brackets.ensures.ok in
    let bracket_free = bracket_faultless brackets.0 brackets.2.faultless in search rules

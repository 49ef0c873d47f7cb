use Rattle.for_c.proofs.FileFaults.{first_rejected}
use Rattle.for_c.proofs.read_tables.read_tables.Goals as goal

pub returns-in-Ok-clause-ok : goal.returns-in-Ok-clause-ok
returns-in-Ok-clause-ok c = c.in-Ok.ensures.ok

pub returns-in-Err-clause-err : goal.returns-in-Err-clause-err
returns-in-Err-clause-err c = rw c.error_of_file.ensures (first_rejected _ _ _ _ c.in-Err.ensures.err)

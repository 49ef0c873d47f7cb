use Rattle.std.proofs.Common.{subst, sym}
use Rattle.ucdfiles.specs.Files.{StateTables}
use Rattle.ucdfiles.specs.Tables.{TablesOf}
use Rattle.ucdfiles.proofs.tables.Tables.read.Goals as goal

pub returns-in-Err-clause-err : goal.returns-in-Err-clause-err
returns-in-Err-clause-err c = c.in-Err.ensures.err

pub returns-in-Err-read_brackets-clause-err : goal.returns-in-Err-read_brackets-clause-err
returns-in-Err-read_brackets-clause-err c = (c.in-Ok.ensures.ok.faultless, c.in-Err-read_brackets.ensures.err)

pub returns-in-Ok-read_mirrors-clause-ok : goal.returns-in-Ok-read_mirrors-clause-ok
returns-in-Ok-read_mirrors-clause-ok c =
    subst (λ (tables : TablesOf). StateTables c.args.classes.now c.args.brackets.now c.args.mirrors.now tables)
    (sym c.new.ensures) record {
      by_classes = c.in-Ok.ensures.ok;
      by_brackets = c.in-Ok-read_brackets.ensures.ok;
      by_mirrors = c.in-Ok-read_mirrors.ensures.ok;
    }

pub returns-in-Err-read_mirrors-clause-err : goal.returns-in-Err-read_mirrors-clause-err
returns-in-Err-read_mirrors-clause-err c =
    (c.in-Ok.ensures.ok.faultless, c.in-Ok-read_brackets.ensures.ok.faultless, c.in-Err-read_mirrors.ensures.err)

use Rattle.std.proofs.Common.{inr, refl}
use Rattle.std.specs.Str.{chars}
use Rattle.requests.proofs.FirstFaults.{begun_done}
use Rattle.requests.proofs.PrintedFails.{opening_fails, tables_fail, write_fails}
use Rattle.requests.proofs.text_printing.print_text.Goals as goal

pub returns-in_err-tables-clause-fault : goal.returns-in_err-tables-clause-fault
returns-in_err-tables-clause-fault g c =
    tables_fail _ _ _ _ _ _ c.from_residual.result _ c.from_residual.ensures.1 c.in_err-tables.ensures.fault

pub returns-in_err-opened-clause-fault : goal.returns-in_err-opened-clause-fault
returns-in_err-opened-clause-fault g c =
    opening_fails _ _ _ _ _ _ _ c.in_ok-tables.ensures.tables c.from_residual-in_err-opened.result _
    c.from_residual-in_err-opened.ensures.1
    c.in_err-opened.ensures.fault

pub returns-in-Ok-clause-printed : goal.returns-in-Ok-clause-printed
returns-in-Ok-clause-printed g c =
    let printed = c.in-Ok.ensures.printed in
    let opened = c.in_ok-opened.ensures.opened in
    record {
      tables = c.in_ok-tables.tables;
      stated = c.in_ok-tables.ensures.tables;
      text = chars printed.0;
      read = record {
        bytes = printed.0;
        begins = g.met.F.Files.gave _ _ _ _ _ _ opened printed.1;
        read = g.met.F.Files.gave_all _ _ _ _ _ _ opened printed.1 c.in-Ok.ensures.whole;
        utf8 = printed.2.utf8;
        text_is = refl;
      };
      noted = printed.2.noted;
    }

pub returns-in-Err-Write-clause-fault : goal.returns-in-Err-Write-clause-fault
returns-in-Err-Write-clause-fault g c =
    let given = rw c.in-Err-Write.field-0-is at c.in-Err-Write.ensures.fault in
    let opened = c.in_ok-opened.ensures.opened in
    write_fails _ c.args.form c.args.asked.direction _ _ _ _ c.in_ok-tables.ensures.tables _ given.0
    (g.met.F.Files.gave _ _ _ _ _ _ opened given.1)
    (g.met.F.Files.gave_all _ _ _ _ _ _ opened given.1 given.2.0) given.2.1

pub returns-in-Err-NobodyReads-clause-fault : goal.returns-in-Err-NobodyReads-clause-fault
returns-in-Err-NobodyReads-clause-fault g c =
    let given = c.in-Err-NobodyReads.ensures.fault in
    inr (begun_done _ _ _ _ c.in_ok-tables.ensures.tables given.0
    (g.met.F.Files.gave _ _ _ _ _ _ c.in_ok-opened.ensures.opened given.1))

pub returns-in-Err-Memory-clause-fault : goal.returns-in-Err-Memory-clause-fault
returns-in-Err-Memory-clause-fault g c =
    let given = c.in-Err-Memory.ensures.fault in
    inr (begun_done _ _ _ _ c.in_ok-tables.ensures.tables given.0
    (g.met.F.Files.gave _ _ _ _ _ _ c.in_ok-opened.ensures.opened given.1))

pub returns-in-Err-NotUtf8-clause-fault : goal.returns-in-Err-NotUtf8-clause-fault
returns-in-Err-NotUtf8-clause-fault g c =
    let given = rw c.in-Err-NotUtf8.field-0-is at c.in-Err-NotUtf8.ensures.fault in
    inr (
      refl,
      record {
        tables = c.in_ok-tables.tables;
        stated = c.in_ok-tables.ensures.tables;
        bytes = given.0;
        read = (g.met.F.Files.gave_all _ _ _ _ _ _ c.in_ok-opened.ensures.opened given.1 given.2.0, given.2.1);
        noted = given.2.2;
      },
    )

pub returns-clause-fault : goal.returns-clause-fault
returns-clause-fault g c =
    let given = rw c.in-Err-Read.field-0-is at c.in-Err-Read.ensures.fault in
    rw c.unread-unread.ensures (inr (
      refl,
      record {
        tables = c.in_ok-tables.tables;
        stated = c.in_ok-tables.ensures.tables;
        bytes = given.0;
        read = g.met.F.Files.gave_up _ _ _ _ _ _ c.in_ok-opened.ensures.opened given.1 given.2.0;
        noted = given.2.1;
      },
    ))

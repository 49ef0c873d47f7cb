use Rattle.std.proofs.Common.{Err, ap, inr}
use Rattle.ucdfiles.specs.ClassFile.{class_fault}
use Rattle.requests.proofs.TableEnds.{table_ends}
use Rattle.requests.proofs.table_files.read_classes.Goals as goal

pub returns-in-Ok-clause-ok : goal.returns-in-Ok-clause-ok
returns-in-Ok-clause-ok g c =
    let opened = c.in_ok-source.ensures.opened in
    let read = c.in-Ok.ensures.ok in
    (opened.0, read.0, opened.1, g.met.F.Files.gave_all _ _ _ _ _ _ opened.2 read.1 read.2, read.3)

pub returns-clause-err : goal.returns-clause-err
returns-clause-err g c =
    let opened = c.in_ok-source.ensures.opened in
    let read = c.in-Err.ensures.err in
    let ends = table_ends (g.F.Files.facts c.args.files.now) class_fault _ _ read.0 _
    (g.met.F.Files.gave _ _ _ _ _ _ opened.2 read.1)
    (λ whole. g.met.F.Files.gave_all _ _ _ _ _ _ opened.2 read.1 whole) _ _ c.in-Err.fault
    (λ e. g.met.F.Files.gave_up _ _ _ _ _ _ opened.2 read.1 (c.in-Err.ensures.read.0 (ap Err e))) read.2 in
    rw (c.fault_of_table.ensures, c.unread-unread.ensures) (inr (opened.0, opened.1, ends))

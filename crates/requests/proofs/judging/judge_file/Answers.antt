use Rattle.std.proofs.Common.{◌∙◌, ℕ, List, [], ◌∷◌, Option, None, Some, ap}
use Rattle.std.specs.Borrow.{Bor}
use Rattle.units.specs.Limits.{standard}
use Rattle.bidtests.specs.FileKinds.{verdict_of}
use Rattle.bidtests.specs.declared.kind.Kind.{Kind}
use Rattle.requests.proofs.FirstFaults.{FailsIn-following, first_of_all, passed_on, has_rows, row_tables_done}
use Rattle.requests.proofs.MadeRows.{first_fails}
use Rattle.requests.specs.FileRows.{IsKindOfFile}
use Rattle.requests.specs.JudgedFiles.{HasJudged, IsVerdictOn}
use Rattle.requests.specs.Outcomes.{IsDone}
use Rattle.requests.specs.Parts.{FailsIn, file_part, parts_of, row_table_parts}
use Rattle.requests.specs.ReadFiles.{FileFacts, most_file_bytes}
use Rattle.requests.specs.declared.outcome.Outcome.TheVariants.{Judged}
use Rattle.requests.specs.declared.request.FileKind.{FileKind}
use Rattle.requests.specs.declared.request.FileKind.TheVariants.{Classes, Characters}
use Rattle.requests.specs.declared.request.Request.TheVariants.{Judge}
use Rattle.requests.specs.declared.request.TableSource.{TableSource}
use Rattle.requests.proofs.judging.judge_file.Goals as goal

-- a file of these rows was judged
judged : (files : FileFacts) (kind : FileKind) (source : Option TableSource) (file : Bor (List ℕ))
    (before after : Option (List ℕ)) (rows : Kind)
    (status : ℕ) → IsKindOfFile files kind source rows → HasJudged files (IsVerdictOn rows) file.now before after status
    → IsDone files before after (Judge kind source file) (Judged status)
judged files Classes source file before after rows status is h = record {
  bytes = h.bytes;
  read = h.read;
  verdict = h.verdict;
  is = h.is ∙ ap (λ (r : Kind). verdict_of standard r h.bytes) is;
  noted = h.noted;
}
judged files Characters (Some source) file before after rows status is h = record {
  bytes = h.bytes;
  read = h.read;
  verdict = h.verdict;
  is = (is.0.now, is.1, h.is ∙ ap (λ (r : Kind). verdict_of standard r h.bytes) is.2);
  noted = h.noted;
}
judged files Characters None file before after rows status is h = absurd is

pub returns-in_err-tables-clause-fault : goal.returns-in_err-tables-clause-fault
returns-in_err-tables-clause-fault g c =
    let files = g.F.Files.facts c.args.files.now in
    let tables = row_table_parts files c.args.kind c.args.tables in
    first_fails (parts_of files (Judge c.args.kind c.args.tables c.args.file)) _ c.from_residual.result _
    c.from_residual.ensures.1
    (first_of_all tables (file_part files most_file_bytes c.args.file.now ∷ []) _ c.in_err-tables.ensures.fault)

pub returns-in_err-status-clause-fault : goal.returns-in_err-status-clause-fault
returns-in_err-status-clause-fault g c =
    let files = g.F.Files.facts c.args.files.now in
    let is = has_rows files c.args.kind c.args.tables _ _ c.in_ok-tables.ensures.tables c.rows_by.ensures in
    passed_on (FailsIn (parts_of files (Judge c.args.kind c.args.tables c.args.file)) _ _)
    c.from_residual-in_err-status.result _ c.from_residual-in_err-status.ensures.1
    (FailsIn-following (row_table_parts files c.args.kind c.args.tables)
    (file_part files most_file_bytes c.args.file.now ∷ []) _ _ _
    (row_tables_done files c.args.kind c.args.tables _ is) c.in_err-status.ensures.fault)

pub returns-clause-done : goal.returns-clause-done
returns-clause-done g c =
    let is = has_rows (g.F.Files.facts c.args.files.now) c.args.kind c.args.tables _ _ c.in_ok-tables.ensures.tables
    c.rows_by.ensures in
    judged _ c.args.kind c.args.tables c.args.file _ _ _ _ is c.in_ok-status.ensures.judged

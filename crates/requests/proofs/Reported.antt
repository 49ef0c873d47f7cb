-- How a report ends: its status is that of the verdict, and what ends it ends its request.
use Rattle.std.proofs.Common.{◌≡◌, ℕ, List, [], ◌∷◌, Option, None, Some, Result, Ok, Err, IfErr, IsErrAnd, inl, inr, refl, sym, ap, ◌∙◌}
use Rattle.std.specs.Borrow.{Bor}
use Rattle.units.specs.Limits.{standard}
use Rattle.units.specs.Text.{lines_of}
use Rattle.bidtests.specs.FileKinds.{findings_by, verdict_of}
use Rattle.bidtests.specs.declared.kind.Kind.{Kind}
use Rattle.bidtests.specs.declared.verdict.Cause.{Cause}
use Rattle.bidtests.proofs.SplitterSteps.{verdict-of}
use Rattle.report.specs.FileReports.{is_right, report_of, right_with, verdict_from}
use Rattle.report.specs.declared.wrong_case.WrongCase.{WrongCase}
use Rattle.report.proofs.Amounts.{amounts}
use Rattle.report.specs.ReadExpected.{strict_terms}
use Rattle.requests.specs.FileRows.{IsKindOfFile}
use Rattle.requests.specs.JudgedFiles.{verdict_status}
use Rattle.requests.specs.Outcomes.{Fails}
use Rattle.requests.specs.ReadFiles.{FileFacts, most_file_bytes}
use Rattle.requests.specs.ReportedFiles.{FailsAs, report_status}
use Rattle.requests.specs.Parts.{FailsOver, all_parts_of, file_part, opening_part, parts_of, row_table_parts}
use Rattle.requests.specs.declared.fault.Fault.{Fault}
use Rattle.requests.specs.declared.request.FileKind.{FileKind}
use Rattle.requests.specs.declared.request.ReportOptions.{ReportOptions}
use Rattle.requests.specs.declared.request.Request.{Request}
use Rattle.requests.specs.declared.request.Request.TheVariants.{Report}
use Rattle.requests.specs.declared.request.TableSource.{TableSource}
use Rattle.requests.proofs.FirstFaults.{FailsOver-following, passed_on, row_tables_done}

status_from : (ws : List WrongCase) (m : Option (ℕ × Cause)) (rows cases : ℕ)
    → report_status (right_with ws m) ≡ verdict_status (verdict_from ws m rows cases)
status_from [] None rows cases = refl
status_from [] (Some m) rows cases = refl
status_from (w ∷ ws) m rows cases = refl

-- the status of a report is that of the verdict on the file
pub status_of_report : (rows : Kind) (bytes : List ℕ)
    → report_status (is_right (report_of (strict_terms standard) rows bytes)) ≡
    verdict_status (verdict_of standard rows bytes)
status_of_report rows bytes =
    let report = report_of (strict_terms standard) rows bytes in
    status_from report.wrong report.malformed report.case_counts.rows report.case_counts.cases
    ∙ sym (ap verdict_status (verdict-of standard rows bytes ∙ amounts standard (findings_by rows (lines_of bytes))))

module _ (files : FileFacts) (before after : Option (List ℕ)) where
  -- what ends a part of a request ends it
  pub steps_fail : (request : Request) {T : Type 0} (r : Result T Fault) →
      IfErr r (FailsOver (parts_of files request) (all_parts_of files request) before after)
      → IfErr r (Fails files before after request)
  steps_fail request (Ok x) h = h
  steps_fail request (Err fault) h = inl h

  -- the same for a fault that is returned unchanged
  pub passed_fail : (request : Request) {T : Type 0} (r : Result T Fault) (e : Fault) → IsErrAnd r (λ given. given ≡ e)
      → FailsOver (parts_of files request) (all_parts_of files request) before after e →
      IfErr r (Fails files before after request)
  passed_fail request r e same h = passed_on (Fails files before after request) r e same (inl h)

  -- what ends a report on a file of these rows ends its request, after the tables that the rows need
  pub rows_fail : (kind : FileKind) (source : Option TableSource) (file : Bor (List ℕ)) (options : ReportOptions)
      (rows : Kind)
      → IsKindOfFile files kind source rows → {T : Type 0} (r : Result T Fault) (e : Fault) →
      IsErrAnd r (λ given. given ≡ e)
      → FailsAs files rows file.now options before after e →
      IfErr r (Fails files before after (Report kind source file options))
  rows_fail kind source file options rows is r e same (inl h) =
      passed_fail (Report kind source file options) r e same (FailsOver-following (row_table_parts files kind source)
      (opening_part files most_file_bytes file.now ∷ []) (file_part files most_file_bytes file.now ∷
      []) before after e
      (row_tables_done files kind source rows is) h)
  rows_fail kind source file options rows is r e same (inr h) =
      passed_on (Fails files before after (Report kind source file options)) r e same (inr (rows, is, h))

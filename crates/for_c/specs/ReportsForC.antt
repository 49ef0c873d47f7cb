-- The bytes that a report has taken, and the wrong cases that it has returned.
use Rattle.std.specs.Prelude.{◌≡◌, Option, Bool, true, false, ℕ, List, [], ◌++◌, drop}
use Rattle.units.specs.Limits.{LimitsOf}
use Rattle.ucdfiles.specs.Tables.{TablesOf}
use Rattle.bidtests.specs.declared.kind.Kind.{Kind}
use Rattle.bidtests.specs.FileKinds.{tables_of}
use Rattle.report.specs.declared.wrong_case.WrongCase.{WrongCase}
use Rattle.report.specs.FileReports.{report_of, decided_cases}
use Rattle.report.specs.ReadExpected.{strict_terms}
use Rattle.report.specs.Reporting.{Reporting, Reports}
use Rattle.for_c.specs.declared.report_for_c.ReportForC.{ReportForC}

-- the known wrong cases of such a file, up to the first malformed line: before its end those of the final lines, which
-- no bytes after these change; at its end those of all lines
abbrev pub cases_known : LimitsOf → Kind → Bool → List ℕ → List WrongCase
cases_known limits kind false bytes = decided_cases (strict_terms limits) kind bytes
cases_known limits kind true bytes = (report_of (strict_terms limits) kind bytes).wrong

-- the wrong cases of the last line that the report has not yet returned
abbrev pub cases_left : ReportForC → List WrongCase
cases_left report = drop report.returned report.report.lines.found

-- the report on a file of this kind, with these limits, has taken these bytes and found these wrong cases: before the
-- end of its file, or at it
abbrev pub HasCome : LimitsOf → Kind → Bool → Reporting → List WrongCase → List ℕ → Type 0
HasCome limits kind false report cases bytes = Reports (strict_terms limits) kind report cases bytes
HasCome limits kind true report cases bytes =
    report_of (strict_terms limits) kind bytes ≡ record {
      wrong = cases;
      case_counts = report.lines.case_counts;
      malformed = report.malformed;
    }

-- the report is on a file of this kind, with these limits; it has taken these bytes, in any pieces, and if `ended` the
-- end of the file; the wrong cases that it has returned and those that remain are all that it has found
pub record HasReported (limits : LimitsOf) (kind : Kind) (ended : Bool) (report : ReportForC)
    (returned : List WrongCase) (bytes : List ℕ) : Type 0 where
  pub ends : report.ended ≡ ended
  pub so_far : HasCome limits kind ended report.report (returned ++ cases_left report) bytes

-- a report before its first byte, on a file of each kind with these tables, or without tables
abbrev pub IsNewReport : LimitsOf → Option TablesOf → ReportForC → Type 0
IsNewReport limits tables report =
    (kind : Kind) → tables_of kind ≡ tables → HasReported limits kind false report [] []

-- the wrong cases that it has returned and those that remain are together all that are known of the bytes that it has
-- taken
abbrev pub ReturnsAll : Type 0
ReturnsAll =
    (limits : LimitsOf) (kind : Kind) (ended : Bool) (report : ReportForC) (returned : List WrongCase)
    (bytes : List ℕ)
    → HasReported limits kind ended report returned bytes →
    returned ++ cases_left report ≡ cases_known limits kind ended bytes

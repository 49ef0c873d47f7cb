-- What a report stores from line to line, and the bytes that it represents.
use Rattle.std.specs.Borrow.{Bor}
use Rattle.std.specs.Prelude.{◌≡◌, Option, Some, None, ℕ, List, [], ◌++◌, length, ⊤}
use Rattle.units.specs.LineCutting.{Cutting, Represents}
use Rattle.report.specs.declared.terms.Terms.{Terms}
use Rattle.units.specs.Lines.{CutsInto}
use Rattle.ucdfiles.specs.Tables.{TablesOf}
use Rattle.units.specs.declared.line_cut.Cut.{Cut}
use Rattle.units.specs.declared.line_cut.Cut.TheVariants.{More, Line, TooLong}
use Rattle.bidtests.specs.declared.kind.Kind.{Kind}
use Rattle.bidtests.specs.declared.verdict.Cause.{Cause}
use Rattle.bidtests.specs.declared.verdict.Cause.TheVariants.{LineTooLong}
use Rattle.bidtests.specs.Carried.{AreInForce}
use Rattle.bidtests.specs.FileKinds.{findings_by, tables_of}
use Rattle.bidtests.specs.LineReadings.{LineReading, levels_in, order_in, finding_after, HasNoList, IsAfterOneLine}
use Rattle.bidtests.specs.Verdicts.{Finding, Silent, Row, Faulty}
use Rattle.report.specs.declared.case_counts.CaseCounts.{CaseCounts}
use Rattle.report.specs.declared.wrong_case.WrongCase.{WrongCase}
use Rattle.report.specs.FileReports.{FileReport, report_of, first_malformed}
use Rattle.report.specs.ReportCounts.{counts_of, nothing_counted, with_row}
use Rattle.report.specs.WrongCases.{wrong_cases_in, wrong_cases_from}

-- what is stored from line to line: the terms, the state of the line reader, the counts, and the wrong cases of the
-- last line
pub record LineReporting : Type 0 where
  pub terms : Terms
  pub reading : LineReading
  pub case_counts : CaseCounts
  pub found : List WrongCase

-- before the first line
pub record IsAtStart (terms : Terms) (s : LineReporting) : Type 0 where
  pub under : s.terms ≡ terms
  pub lists : HasNoList s.reading
  pub case_counts : s.case_counts ≡ nothing_counted
  pub found : s.found ≡ []

-- the same without wrong cases
abbrev pub forgotten : LineReporting → LineReporting
forgotten s = record { terms = s.terms; reading = s.reading; case_counts = s.case_counts; found = [] }

-- why a line with this finding is malformed, if it is
abbrev pub cause_of : Finding → Option Cause
cause_of Silent = None
cause_of (Faulty cause) = Some cause
cause_of (Row expected) = None

-- the counts after a line with this finding and these wrong cases
abbrev pub counts_after : Finding → List WrongCase → CaseCounts → CaseCounts
counts_after Silent ws t = t
counts_after (Faulty cause) ws t = t
counts_after (Row expected) ws t = with_row (length expected.directions) ws t

-- what is stored after the line with this number, which is not malformed
pub record IsAfterLine (kind : Kind) (number : ℕ) (line : List ℕ) (before after : LineReporting) : Type 0 where
  pub terms : after.terms ≡ before.terms
  pub lists : IsAfterOneLine kind line before.reading after.reading
  pub found : after.found ≡ wrong_cases_in before.terms number (finding_after kind before.reading line)
  pub case_counts : after.case_counts ≡
      counts_after (finding_after kind before.reading line) after.found before.case_counts

-- no more wrong cases or counts
pub record HasNothingNew (before after : LineReporting) : Type 0 where
  pub found : after.found ≡ []
  pub case_counts : after.case_counts ≡ before.case_counts

-- the line with this number and its cause, if it is malformed
abbrev pub malformed_at : ℕ → Option Cause → Option (ℕ × Cause)
malformed_at number None = None
malformed_at number (Some cause) = Some (number, cause)

-- the malformed line that a cut of the line splitter ends, if it ends one
abbrev pub malformed_by : Kind → LineReporting → Cut → Option (ℕ × Cause)
malformed_by kind s More = None
malformed_by kind s (Line number text) = malformed_at number (cause_of (finding_after kind s.reading text.now))
malformed_by kind s (TooLong number) = Some (number, LineTooLong)

-- what is stored after a cut that ends no malformed line
abbrev pub IsAfterCut : Kind → Cut → LineReporting → LineReporting → Type 0
IsAfterCut kind More before after = after ≡ before
IsAfterCut kind (Line number text) before after = IsAfterLine kind number text.now before after
IsAfterCut kind (TooLong number) before after = ⊤

-- this is stored after these lines; none of them is malformed, and these are all of their wrong cases
pub record IsReportAfter (terms : Terms) (kind : Kind) (s : LineReporting) (reported : List WrongCase)
    (lines : List (List ℕ)) : Type 0 where
  pub under : s.terms ≡ terms
  pub sound : first_malformed 0 (findings_by kind lines) ≡ None
  pub lists : AreInForce kind (levels_in s.reading) (order_in s.reading) lines
  pub case_counts : s.case_counts ≡ counts_of terms (findings_by kind lines)
  pub cases : reported ≡ wrong_cases_from terms 0 (findings_by kind lines)

-- what a report stores: the tables of its file's kind, if it has tables, the state of its line splitter, what it stores
-- between lines, and the malformed line at which it has ended
pub record Reporting : Type 0 where
  pub tables : Option TablesOf
  pub cutting : Cutting
  pub lines : LineReporting
  pub malformed : Option (ℕ × Cause)

-- no complete line is malformed
pub record GoesOn (terms : Terms) (kind : Kind) (cutting : Cutting) (s : LineReporting) (reported : List WrongCase)
    (bytes : List ℕ) : Type 0 where
  pub splitter : Represents cutting bytes
  pub lines : List (List ℕ)
  pub rest : List ℕ
  pub cut : CutsInto bytes lines rest
  pub following : IsReportAfter terms kind s reported lines

-- what holds of the bytes that were given and the wrong cases that were reported: without a malformed line the cases
-- are those of the lines so far; with one, each file that begins with these bytes has this report
abbrev pub ReportsBy : Terms → Kind → Option (ℕ × Cause) → Cutting → LineReporting → List WrongCase → List ℕ → Type 0
ReportsBy terms kind None cutting s reported bytes = GoesOn terms kind cutting s reported bytes
ReportsBy terms kind (Some malformed) cutting s reported bytes =
    (more : List ℕ) → report_of terms kind (bytes ++ more) ≡ record {
      wrong = reported;
      case_counts = s.case_counts;
      malformed = Some malformed;
    }

-- the report is on a file of this kind with these terms, was given these bytes in any pieces, and reported these wrong
-- cases
pub record Reports (terms : Terms) (kind : Kind) (report : Reporting) (reported : List WrongCase)
    (bytes : List ℕ) : Type 0 where
  pub of : report.tables ≡ tables_of kind
  pub is : ReportsBy terms kind report.malformed report.cutting report.lines reported bytes

-- the same for each kind with these tables, or without tables
abbrev pub ReportsWith : Terms → Option TablesOf → Reporting → List WrongCase → List ℕ → Type 0
ReportsWith terms tables report reported bytes =
    (kind : Kind) → tables_of kind ≡ tables → Reports terms kind report reported bytes

-- the malformed line that the end of a file ends, if it ends one
abbrev pub malformed_last : Kind → LineReporting → Option (ℕ × Bor (List ℕ)) → Option (ℕ × Cause)
malformed_last kind s None = None
malformed_last kind s (Some last) = malformed_at last.0 (cause_of (finding_after kind s.reading last.1.now))

-- what is stored after the end of a file, if it ends no malformed line
abbrev pub IsAfterLast : Kind → Option (ℕ × Bor (List ℕ)) → LineReporting → LineReporting → Type 0
IsAfterLast kind None before after = after ≡ before
IsAfterLast kind (Some last) before after = IsAfterLine kind last.0 last.1.now before after

-- the report on the whole file, if these wrong cases were reported before its end, and the others are found at its end
abbrev pub report_at_end : List WrongCase → Reporting → FileReport
report_at_end reported r = record {
  wrong = reported ++ r.lines.found;
  case_counts = r.lines.case_counts;
  malformed = r.malformed;
}

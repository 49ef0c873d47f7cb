-- The bytes that a report takes, and the wrong cases that it returns.
use Rattle.std.proofs.Common.{◌≡◌, ℕ, ◌++◌, Bool, true, false, List, [], refl, sym, ap, subst, ◌∙◌, append-nil}
use Rattle.units.specs.Limits.{LimitsOf}
use Rattle.bidtests.specs.declared.kind.Kind.{Kind}
use Rattle.report.specs.declared.terms.Terms.{Terms}
use Rattle.report.specs.declared.wrong_case.WrongCase.{WrongCase}
use Rattle.report.specs.FileReports.{FileReport, report_of}
use Rattle.report.specs.PrintedReports.{HasReported as ReportsOf}
use Rattle.report.specs.ReadExpected.{strict_terms}
use Rattle.report.specs.Reporting.{Reporting, Reports, report_at_end}
use Rattle.report.proofs.DecidedCases.{reported-decided}
use Rattle.for_c.specs.declared.counts.BidiCounts.{BidiCounts}
use Rattle.for_c.specs.declared.report_for_c.ReportForC.{ReportForC}
use Rattle.for_c.specs.ReportsForC.{HasCome, HasReported, ReturnsAll, cases_known, cases_left}
use Rattle.for_c.specs.ReportNumbers.{counts_for_c, counts_for_report}
use Rattle.for_c.specs.ReportCalls.{Ends, Takes}

come-known : (limits : LimitsOf) (kind : Kind) (ended : Bool) (report : Reporting) (reported : List WrongCase)
    (b : List ℕ)
    → HasCome limits kind ended report reported b → reported ≡ cases_known limits kind ended b
come-known limits kind false report reported b h = reported-decided (strict_terms limits) kind report reported b h
come-known limits kind true report reported b h = sym (ap (λ (r : FileReport). r.wrong) h)

-- the cases that were returned and those that remain are all that are known
pub returns-all : ReturnsAll
returns-all limits kind ended report returned bytes h =
    come-known limits kind ended report.report (returned ++ cases_left report) bytes h.so_far

-- if no case remains, all cases that were found have been returned
module _ (old : ReportForC) (none : cases_left old ≡ []) where
  before : (limits : LimitsOf) (kind : Kind) (returned : List WrongCase) (bytes : List ℕ)
      → HasReported limits kind false old returned bytes →
      Reports (strict_terms limits) kind old.report returned bytes
  before limits kind returned bytes h =
      subst (λ (reported : List WrongCase). Reports (strict_terms limits) kind old.report reported bytes)
      (ap (λ ws. returned ++ ws) none ∙ append-nil returned) h.so_far

  -- a piece; all wrong cases that are found in it remain
  pub takes-line : (report : Reporting) (piece : List ℕ) → ReportsOf old.report report.lines.found piece report
      → Takes old (record { report = report; returned = 0; ended = old.ended }) piece
  takes-line report piece takes = λ limits kind returned bytes h. record {
    ends = h.ends;
    so_far = takes (strict_terms limits) kind returned bytes (before limits kind returned bytes h);
  }

  -- the end of the file
  pub ends-file : (report : Reporting) (counts : BidiCounts) →
      counts ≡ counts_for_c report.lines.case_counts report.malformed
      → ((terms : Terms) (kind : Kind) (reported : List WrongCase) (b : List ℕ) →
      Reports terms kind old.report reported b → report_of terms kind b ≡ report_at_end reported report)
      → Ends old (record { report = report; returned = 0; ended = true }) counts
  ends-file report counts is ends = λ limits kind returned bytes h.
      let whole = ends (strict_terms limits) kind returned bytes (before limits kind returned bytes h) in
      (record { ends = refl; so_far = whole }, is ∙ sym (ap counts_for_report whole))

-- What a report has found depends on the tables of its kind, not on their address.
use Rattle.std.proofs.Common.{◌≡◌, ℕ, Option, None, Some, List, ◌++◌, sym, ap, subst, ◌∙◌}
use Rattle.units.specs.LineCutting.{Cutting}
use Rattle.report.specs.declared.terms.Terms.{Terms}
use Rattle.units.specs.Text.{lines_of}
use Rattle.bidtests.specs.declared.kind.Kind.{Kind}
use Rattle.bidtests.specs.declared.verdict.Cause.{Cause}
use Rattle.bidtests.specs.FileKinds.{tables_of}
use Rattle.bidtests.specs.Verdicts.{Finding}
use Rattle.bidtests.specs.LineReadings.{levels_in, order_in}
use Rattle.bidtests.proofs.SameTables.{findings-as, in-force-as}
use Rattle.report.specs.declared.wrong_case.WrongCase.{WrongCase}
use Rattle.report.specs.FileReports.{first_malformed, report_on, report_of}
use Rattle.report.specs.Reporting.{LineReporting, IsReportAfter, ReportsBy}
use Rattle.report.specs.ReportCounts.{counts_of}
use Rattle.report.specs.WrongCases.{wrong_cases_from}

module _ (terms : Terms) (kind other : Kind) (same : tables_of other ≡ tables_of kind) where
  pub report-as : (b : List ℕ) → report_of terms other b ≡ report_of terms kind b
  report-as b = ap (report_on terms) (sym (findings-as terms.limits kind other same (lines_of b)))

  following-as : (s : LineReporting) (reported : List WrongCase) (lines : List (List ℕ)) →
      IsReportAfter terms kind s reported lines → IsReportAfter terms other s reported lines
  following-as s reported lines h =
      let e = findings-as terms.limits kind other same lines in
      record {
        under = h.under;
        sound = subst (λ (fs : List Finding). first_malformed 0 fs ≡ None) e h.sound;
        lists = in-force-as kind other same (levels_in s.reading) (order_in s.reading) lines h.lists;
        case_counts = h.case_counts ∙ ap (counts_of terms) e;
        cases = h.cases ∙ ap (wrong_cases_from terms 0) e;
      }

  pub reports-as : (m : Option (ℕ × Cause)) (cutting : Cutting) (s : LineReporting) (reported : List WrongCase)
      (b : List ℕ)
      → ReportsBy terms kind m cutting s reported b → ReportsBy terms other m cutting s reported b
  reports-as None cutting s reported b h =
      record {
        splitter = h.splitter;
        lines = h.lines;
        rest = h.rest;
        cut = h.cut;
        following =
            following-as s reported h.lines h.following;
      }
  reports-as (Some m) cutting s reported b h = λ more. report-as (b ++ more) ∙ h more

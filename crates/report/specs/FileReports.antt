-- The report on a test file: its wrong cases, their counts, and the first malformed line, at which it ends.
use Rattle.std.specs.Prelude.{◌≡◌, ◌≤◌, ◌↔◌, Option, Some, None, ℕ, ◌+◌, Bool, true, false, List, [], ◌∷◌}
use Rattle.std.specs.List.{Contains}
use Rattle.units.specs.Limits.{LimitsOf}
use Rattle.report.specs.declared.terms.Terms.{Terms}
use Rattle.units.specs.Lines.{line_number}
use Rattle.units.specs.Text.{lines_of, decided_lines}
use Rattle.bidtests.specs.declared.kind.Kind.{Kind}
use Rattle.bidtests.specs.declared.verdict.Cause.{Cause}
use Rattle.bidtests.specs.declared.verdict.Verdict.{Verdict}
use Rattle.bidtests.specs.declared.verdict.Verdict.TheVariants.{Yes, Malformed, Wrong}
use Rattle.bidtests.specs.Verdicts.{Expected, Finding, Faulty}
use Rattle.bidtests.specs.FileKinds.{findings_by, verdict_of}
use Rattle.bidtests.specs.Headline.{layout_under, IsMalformed, IsRow, IsWrongAt}
use Rattle.report.specs.declared.case_counts.CaseCounts.{CaseCounts}
use Rattle.report.specs.declared.wrong_case.WrongCase.{WrongCase}
use Rattle.report.specs.ReadExpected.{read_under, strict_terms}
use Rattle.report.specs.ReportCounts.{counts_of}
use Rattle.report.specs.WrongCases.{wrong_cases_from, sound_lines, expected_at, defined_at}

-- the number and the cause of the first malformed line, if k lines are before these
abbrev pub first_malformed : ℕ → List Finding → Option (ℕ × Cause)
first_malformed k [] = None
first_malformed k (Faulty cause ∷ fs) = Some (line_number k, cause)
first_malformed k (f ∷ fs) = first_malformed (k + 1) fs

-- a report: the wrong cases, the counts, and the first malformed line
pub record FileReport : Type 0 where
  pub wrong : List WrongCase
  pub case_counts : CaseCounts
  pub malformed : Option (ℕ × Cause)

-- the report on a file with these findings: on the lines before the first malformed one
abbrev pub report_on : Terms → List Finding → FileReport
report_on terms fs = record {
  wrong = wrong_cases_from terms 0 (sound_lines fs);
  case_counts = counts_of terms (sound_lines fs);
  malformed = first_malformed 0 fs;
}

-- the report on the bytes of a file of this kind, with these terms
abbrev pub report_of : Terms → Kind → List ℕ → FileReport
report_of terms kind bytes = report_on terms (findings_by kind (lines_of bytes))

-- the wrong cases of the final lines, which no further bytes change, up to the first malformed one
abbrev pub decided_cases : Terms → Kind → List ℕ → List WrongCase
decided_cases terms kind bytes = wrong_cases_from terms 0 (sound_lines (findings_by kind (decided_lines bytes)))

-- no case is wrong, and no line malformed
abbrev pub right_with : List WrongCase → Option (ℕ × Cause) → Bool
right_with [] None = true
right_with _ _ = false

-- the file of this report is right
abbrev pub is_right : FileReport → Bool
is_right report = right_with report.wrong report.malformed

-- the verdict by the first wrong case and the first malformed line, and by how many rows and cases there are
abbrev pub verdict_from : List WrongCase → Option (ℕ × Cause) → ℕ → ℕ → Verdict
verdict_from (w ∷ ws) malformed rows cases = Wrong w.line w.direction w.place
verdict_from [] (Some m) rows cases = Malformed m.0 m.1
verdict_from [] None rows cases = Yes rows cases

-- the verdict that a report amounts to
abbrev pub verdict_by : FileReport → Verdict
verdict_by report = verdict_from report.wrong report.malformed report.case_counts.rows report.case_counts.cases

-- line k is a row with this wrong case: its expected and defined items are those at the first place where the compared
-- values differ from the layout; no line up to k is malformed
pub record IsWrongCase (terms : Terms) (found : List Finding) (w : WrongCase) : Type 0 where
  pub k : ℕ
  pub numbered : w.line ≡ line_number k
  pub well_formed : (j : ℕ) (cause : Cause) → j ≤ k → ¬ IsMalformed found j cause
  pub expected : Expected
  pub row : IsRow found k expected
  pub names : Contains expected.directions w.direction
  pub wrong : IsWrongAt terms.limits (read_under terms expected w.direction) w.direction w.place
  pub claimed : w.claimed ≡ expected_at (read_under terms expected w.direction) w.place
  pub defined : w.defined ≡ defined_at (layout_under terms.limits expected w.direction) w.place

-- the verdict on each file is that of its report, if the report compares everything
abbrev pub AmountsToVerdict : LimitsOf → Kind → List ℕ → Type 0
AmountsToVerdict limits kind b = verdict_of limits kind b ≡ verdict_by (report_of (strict_terms limits) kind b)

-- a report contains exactly the wrong cases of the file's lines
abbrev pub HoldsWrongCases : Terms → Kind → List ℕ → Type 0
HoldsWrongCases terms kind b = (w : WrongCase)
    → Contains (report_of terms kind b).wrong w ↔ IsWrongCase terms (findings_by kind (lines_of b)) w

-- What a call does to a report.
use Rattle.std.specs.Prelude.{ℕ, ◌≡◌, ◌≤◌, ◌<◌, ◌⊎◌, ◌++◌, Result, Bool, true, false, List, [], ◌∷◌, IfErr, IfOk, OnErr, OnOk, length, take}
use Rattle.units.specs.Limits.{LimitsOf}
use Rattle.bidtests.specs.declared.kind.Kind.{Kind}
use Rattle.report.specs.declared.wrong_case.WrongCase.{WrongCase}
use Rattle.report.specs.FileReports.{report_of}
use Rattle.report.specs.ReadExpected.{strict_terms}
use Rattle.for_c.specs.ReportNumbers.{case_for_c, counts_for_report}
use Rattle.for_c.specs.ReportsForC.{HasReported, cases_known, cases_left}
use Rattle.for_c.specs.declared.call_error.CallError.{CallError}
use Rattle.for_c.specs.declared.call_error.CallError.TheVariants.{NoReport, NoCase, CasesLeft}
use Rattle.for_c.specs.declared.counts.BidiCounts.{BidiCounts}
use Rattle.for_c.specs.declared.report_for_c.ReportForC.{ReportForC}
use Rattle.for_c.specs.declared.wrong_case.BidiWrongCase.{BidiWrongCase}

-- the report can take bytes, or the end of its file: that has not ended, and no wrong case remains
pub record AcceptsBytes (report : ReportForC) : Type 0 where
  pub unended : report.ended ≡ false
  pub none : cases_left report ≡ []

-- it takes no bytes for this reason: its file has ended, or wrong cases remain
abbrev pub RejectsBytes : ReportForC → CallError → Type 0
RejectsBytes report error =
    ((error ≡ NoReport) × (report.ended ≡ true))
    ⊎ ((error ≡ CasesLeft) × (report.ended ≡ false) × (0 < length (cases_left report)))

-- the report has taken this piece after all that it had taken before
abbrev pub Takes : ReportForC → ReportForC → List ℕ → Type 0
Takes old new piece =
    (limits : LimitsOf) (kind : Kind) (returned : List WrongCase) (bytes : List ℕ)
    → HasReported limits kind false old returned bytes → HasReported limits kind false new returned (bytes ++ piece)

-- a call that passes a piece of a file: if it succeeds, the report has taken that many bytes of it, and fewer than all
-- only if wrong cases remain; else the report is unchanged, for a reason
pub record TakesBytes (piece : List ℕ) (old new : ReportForC) (result : Result ℕ CallError) : Type 0 where
  pub accepts : OnOk result (AcceptsBytes old)
  pub takes : IfOk result (λ used. Takes old new (take used piece))
  pub used : IfOk result (λ used. used ≤ length piece)
  pub stops : IfOk result (λ used. used < length piece → 0 < length (cases_left new))
  pub unchanged : OnErr result (new ≡ old)
  pub reason : IfErr result (RejectsBytes old)

-- the report has returned this wrong case after all that it had returned before
abbrev pub Returns : ReportForC → ReportForC → WrongCase → Type 0
Returns old new case =
    (limits : LimitsOf) (kind : Kind) (ended : Bool) (returned : List WrongCase) (bytes : List ℕ)
    → HasReported limits kind ended old returned bytes →
    HasReported limits kind ended new (returned ++ case ∷ []) bytes

-- the report has returned all wrong cases that are known of the bytes that it has taken
abbrev pub HasReturnedAll : ReportForC → Type 0
HasReturnedAll report =
    (limits : LimitsOf) (kind : Kind) (ended : Bool) (returned : List WrongCase) (bytes : List ℕ)
    → HasReported limits kind ended report returned bytes → returned ≡ cases_known limits kind ended bytes

-- a call that asks for the next wrong case: if it succeeds, the report has returned the one with these numbers; else
-- the report is unchanged, since it has returned all
pub record ReturnsNext (old new : ReportForC) (result : Result BidiWrongCase CallError) : Type 0 where
  pub next : IfOk result (λ numbers. (case : WrongCase) × (numbers ≡ case_for_c case) × Returns old new case)
  pub unchanged : OnErr result (new ≡ old)
  pub reason : IfErr result (λ error. (error ≡ NoCase) × HasReturnedAll old)

-- the report has taken the end of its file, and these are the counts of the report on that
abbrev pub Ends : ReportForC → ReportForC → BidiCounts → Type 0
Ends old new counts =
    (limits : LimitsOf) (kind : Kind) (returned : List WrongCase) (bytes : List ℕ)
    → HasReported limits kind false old returned bytes
    → HasReported limits kind true new returned bytes ×
    (counts ≡ counts_for_report (report_of (strict_terms limits) kind bytes))

-- a call that passes the end of a file: if it succeeds, the report has ended with these counts; else the report is
-- unchanged, for a reason
pub record EndsReport (old new : ReportForC) (result : Result BidiCounts CallError) : Type 0 where
  pub accepts : OnOk result (AcceptsBytes old)
  pub ends : IfOk result (Ends old new)
  pub unchanged : OnErr result (new ≡ old)
  pub reason : IfErr result (RejectsBytes old)

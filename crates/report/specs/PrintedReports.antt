-- What is printed of a report while its file is read.
use Rattle.std.specs.Prelude.{◌≡◌, ◌≢◌, Option, ℕ, ◌+◌, Bool, List, [], ◌++◌, length, take}
use Rattle.std.specs.Io.KnownBytes.{Appends}
use Rattle.std.specs.IoError.{error_kind}
use Rattle.std.specs.declared.io.Error.{Error}
use Rattle.std.specs.declared.io.ErrorKind.TheVariants.{BrokenPipe}
use Rattle.report.specs.declared.terms.Terms.{Terms}
use Rattle.bidtests.specs.declared.kind.Kind.{Kind}
use Rattle.report.specs.declared.print.ReportFault.{ReportFault}
use Rattle.report.specs.declared.print.ReportFault.TheVariants.{Read, Write, NobodyReads}
use Rattle.printing.specs.FailedWrites.{IsCutAfter}
use Rattle.printing.specs.ReadTexts.{IsWritten}
use Rattle.printing.specs.declared.written.Written.{Written}
use Rattle.printing.specs.declared.written.Written.TheVariants.{CutOff}
use Rattle.report.specs.declared.wrong_case.WrongCase.{WrongCase}
use Rattle.report.specs.FileReports.{FileReport, is_right, report_of, decided_cases}
use Rattle.report.specs.Reporting.{Reporting, Reports, report_at_end}
use Rattle.report.specs.ReportText.{first_cases_text, foot_text, report_text}

-- the report reported these wrong cases while it was given these bytes
abbrev pub HasReported : Reporting → List WrongCase → List ℕ → Reporting → Type 0
HasReported before ws bytes after =
    (terms : Terms) (kind : Kind) (reported : List WrongCase) (b : List ℕ)
    → Reports terms kind before reported b → Reports terms kind after (reported ++ ws) (b ++ bytes)

-- the known bytes grew by the lines of the first of these wrong cases, at most `most`; `remaining` more may follow
pub record HasWrittenFirst (most : ℕ) (ws : List WrongCase) (before after : Option (List ℕ))
    (remaining : ℕ) : Type 0 where
  pub lines : Appends before after (first_cases_text most ws)
  pub more : remaining + length (take most ws) ≡ most

-- after the first wrong cases the end of a report is printed: the first of the wrong cases that it found last, as many
-- as may follow, and the foot; the result is whether the file is right
pub record PrintsEnd (most : ℕ) (ended : Reporting) (before after : Option (List ℕ)) (right : Bool) : Type 0 where
  pub between : Option (List ℕ)
  pub remaining : ℕ
  pub cases : HasWrittenFirst most ended.lines.found before between remaining
  pub foot : Appends between after (foot_text ended.malformed ended.lines.case_counts)
  pub outcome : (terms : Terms) (kind : Kind) (reported : List WrongCase) (bytes : List ℕ)
      → report_of terms kind bytes ≡ report_at_end reported ended → right ≡ is_right (report_of terms kind bytes)

-- the known bytes grew by the text of the report; the result is whether the file is right
pub record IsPrinted (most : ℕ) (report : FileReport) (before after : Option (List ℕ)) (right : Bool) : Type 0 where
  pub text : Appends before after (report_text most report)
  pub outcome : right ≡ is_right report

-- a new report is printed, and these bytes are its whole file
abbrev pub Prints : Reporting → ℕ → List ℕ → Option (List ℕ) → Option (List ℕ) → Bool → Type 0
Prints report most bytes before after right =
    (terms : Terms) (kind : Kind) → Reports terms kind report [] []
    → IsPrinted most (report_of terms kind bytes) before after right

-- unless a write failed, the lines of the wrong cases are printed that are on final lines, which no further bytes
-- change
abbrev pub PrintsKnownCases : Written → Reporting → ℕ → List ℕ → Option (List ℕ) → Option (List ℕ) → Type 0
PrintsKnownCases written report most bytes before after =
    (terms : Terms) (kind : Kind) → Reports terms kind report [] []
    → IsWritten written before after (first_cases_text most (decided_cases terms kind bytes))

-- a new report breaks off after these bytes: the source failed, and the wrong cases so far are printed unless a write
-- failed; or the source ended, and a write failed; or nobody reads what is written
abbrev pub BreaksOff : Type 0 → Type 0 → Reporting → ℕ → List ℕ → Option (List ℕ) → Option (List ℕ) → ReportFault →
    Type 0
BreaksOff Failed Ended report most bytes before after (Read written) =
    Failed × PrintsKnownCases written report most bytes before after
BreaksOff Failed Ended report most bytes before after Write = Ended
BreaksOff Failed Ended report most bytes before after NobodyReads = Unit {0}

-- the same if a write failed before, and the source was read on
abbrev pub EndsUnwritten : Type 0 → Type 0 → ReportFault → Type 0
EndsUnwritten Failed Ended (Read CutOff) = Failed
EndsUnwritten Failed Ended Write = Ended
EndsUnwritten Failed Ended _ = ⊥

-- a fault of the source reports that the output is cut off only after a call of the writer failed; `failed` says with
-- which errors the last call failed
abbrev pub ReportsCut : (Error → Type 0) → ReportFault → Type 0
ReportsCut failed (Read written) = IsCutAfter failed written
ReportsCut failed Write = Unit {0}
ReportsCut failed NobodyReads = Unit {0}

-- the fault is that of a write
abbrev pub IsWriteFault : ReportFault → Type 0
IsWriteFault (Read written) = ⊥
IsWriteFault Write = Unit {0}
IsWriteFault NobodyReads = Unit {0}

-- the fault of a write that failed with this error, after the source was read to its end: nobody reads what is written
-- if and only if the error's kind says so
pub record IsFaultOf (error : Error) (fault : ReportFault) : Type 0 where
  pub broken : error_kind error ≡ BrokenPipe → fault ≡ NobodyReads
  pub other : error_kind error ≢ BrokenPipe → fault ≡ Write

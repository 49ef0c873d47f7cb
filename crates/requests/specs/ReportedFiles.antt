-- The results of reporting on a file.
use Rattle.std.specs.Prelude.{◌≡◌, ◌⊎◌, ℕ, List, [], ◌∷◌, Option, Bool, true, false}
use Rattle.std.specs.Io.KnownBytes.{Appends}
use Rattle.units.specs.Limits.{standard}
use Rattle.units.specs.declared.unread.Unread.{Unread}
use Rattle.bidtests.specs.FileKinds.{verdict_of}
use Rattle.bidtests.specs.declared.kind.Kind.{Kind}
use Rattle.printing.specs.ReadTexts.{IsWritten}
use Rattle.printing.specs.declared.written.Written.{Written}
use Rattle.report.specs.FileReports.{is_right, report_of, decided_cases}
use Rattle.report.specs.ReadExpected.{strict}
use Rattle.report.specs.ReportText.{first_cases_text, report_text}
use Rattle.requests.specs.FileRows.{IsKindOfFile}
use Rattle.requests.specs.JudgedFiles.{verdict_status}
use Rattle.requests.specs.ReadFiles.{FileFacts, most_file_bytes, named_file, origin_of, word_file}
use Rattle.requests.specs.Parts.{AreDone, FailsOver, file_part, opening_part}
use Rattle.requests.specs.declared.fault.Fault.{Fault}
use Rattle.requests.specs.declared.fault.Fault.TheVariants.{CannotRead, NobodyReads}
use Rattle.report.specs.declared.terms.Leniency.{Leniency}
use Rattle.report.specs.declared.terms.Terms.{Terms}
use Rattle.requests.specs.declared.request.FileKind.{FileKind}
use Rattle.requests.specs.declared.request.ReportOptions.{ReportOptions}
use Rattle.requests.specs.declared.request.TableSource.{TableSource}

-- the exit status of a report: 0 if the file is right, 1 if it is not
abbrev pub report_status : Bool → ℕ
report_status true = 0
report_status false = 1

-- the terms of a report: the limits of the standard, and which expected results are compared
abbrev pub terms_by : Leniency → Terms
terms_by leniency = record { limits = standard; leniency = leniency }

-- FILE was read whole, as a file of these rows; the known output grew by the text of the report on its bytes, with at
-- most so many wrong cases; and the exit status says whether the file is right; if all expected results are compared,
-- it is the status of the verdict on these bytes
pub record HasReportedAs (files : FileFacts) (rows : Kind) (file : List ℕ) (options : ReportOptions)
    (before after : Option (List ℕ)) (status : ℕ) : Type 0 where
  pub bytes : List ℕ
  pub begins : files.Begins (origin_of file) most_file_bytes bytes
  pub read : files.Holds (origin_of file) most_file_bytes bytes
  pub noted : Appends before after (report_text options.most (report_of (terms_by options.leniency) rows bytes))
  pub status_is : status ≡ report_status (is_right (report_of (terms_by options.leniency) rows bytes))
  pub as_judged : options.leniency ≡ strict → status ≡ verdict_status (verdict_of standard rows bytes)

-- a read of FILE failed after these bytes, for this reason; unless a write failed, the known output grew by the lines
-- of the first wrong cases, at most so many, in the lines that the bytes decide
pub record ReadFailsAs (files : FileFacts) (rows : Kind) (file : List ℕ) (options : ReportOptions)
    (before after : Option (List ℕ)) (unread : Unread) (written : Written) : Type 0 where
  pub bytes : List ℕ
  pub failed : files.Fails (origin_of file) most_file_bytes bytes unread
  pub noted : IsWritten written before after
      (first_cases_text options.most (decided_cases (terms_by options.leniency) rows bytes))

-- when a fault breaks off a report on a file of these rows: a read fails, for the reason in the fault; or, after FILE
-- was opened, nobody reads the output any more
abbrev pub BreaksOffAs : FileFacts → Kind → List ℕ → ReportOptions → Option (List ℕ) → Option (List ℕ) → Fault → Type 0
BreaksOffAs files rows file options before after (CannotRead name folder most unread written) =
    (named_file name folder most ≡ word_file most_file_bytes file) ×
    ReadFailsAs files rows file options before after unread written
BreaksOffAs files rows file options before after NobodyReads = AreDone (opening_part files most_file_bytes file ∷ [])
BreaksOffAs files rows file options before after _ = ⊥

-- the report on a file of these rows fails: the file can't be opened, or a write fails after all of it was read, or the
-- report breaks off
abbrev pub FailsAs : FileFacts → Kind → List ℕ → ReportOptions → Option (List ℕ) → Option (List ℕ) → Fault → Type 0
FailsAs files rows file options before after fault =
    FailsOver (opening_part files most_file_bytes file ∷ []) (file_part files most_file_bytes file ∷
    []) before after fault
    ⊎ BreaksOffAs files rows file options before after fault

-- the file is reported on, with the tables of this source if they are needed
abbrev pub HasReported : FileFacts → FileKind → Option TableSource → List ℕ → ReportOptions → Option (List ℕ) →
    Option (List ℕ) → ℕ → Type 0
HasReported files kind source file options before after status =
    (rows : Kind) × IsKindOfFile files kind source rows × HasReportedAs files rows file options before after status

-- the report on it breaks off by this fault
abbrev pub HasBrokenOff : FileFacts → FileKind → Option TableSource → List ℕ → ReportOptions → Option (List ℕ) →
    Option (List ℕ) → Fault → Type 0
HasBrokenOff files kind source file options before after fault =
    (rows : Kind) × IsKindOfFile files kind source rows × BreaksOffAs files rows file options before after fault

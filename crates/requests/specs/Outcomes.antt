-- The outcome of a request.
use Rattle.std.specs.Prelude.{◌≡◌, ◌⊎◌, Bool, ℕ, List, Option, Some, Result, Ok, Err, false, true}
use Rattle.printing.specs.declared.form.Form.TheVariants as form
use Rattle.requests.specs.declared.request.FileKind.TheVariants.{Classes, Characters}
use Rattle.requests.specs.declared.request.Print.TheVariants.{Levels, Reorder}
use Rattle.requests.specs.declared.request.Request.{Request}
use Rattle.requests.specs.declared.request.Request.TheVariants.{Text, ExplainClasses, ExplainCodes, ExplainRow, Judge, Report, Rows, RowsOf}
use Rattle.requests.specs.declared.fault.Detail.{Detail}
use Rattle.requests.specs.declared.fault.Fault.{Fault}
use Rattle.requests.specs.declared.outcome.Ended.{Ended}
use Rattle.requests.specs.declared.outcome.Outcome.{Outcome}
use Rattle.requests.specs.declared.outcome.Outcome.TheVariants.{Judged, Printed}
use Rattle.requests.specs.RowsExplained.{HasExplainedRow}
use Rattle.requests.specs.FaultText.{EndsBy}
use Rattle.requests.specs.JudgedFiles.{HasJudged, HasJudgedBy, IsClassesVerdict}
use Rattle.requests.specs.Printed.{HasExplained, HasExplainedCodes, HasPrinted, printed_text}
use Rattle.requests.specs.PrintedFiles.{TextBreaksOff}
use Rattle.requests.specs.PrintedLines.{HasPrintedLines}
use Rattle.requests.specs.RowsPrinted.{HasPrintedRows}
use Rattle.requests.specs.ReadFiles.{FileFacts}
use Rattle.requests.specs.ReportedFiles.{HasReported, HasBrokenOff}
use Rattle.requests.specs.Parts.{FailsOver, MemoryLeaves, all_parts_of, parts_of}

-- the exit status: that of the verdict or the report, and otherwise 0
abbrev pub outcome_status : Outcome → ℕ
outcome_status (Judged status) = status
outcome_status Printed = 0

-- the request is done, with the tables that it names: the output for a text, classes, code points or a row is printed,
-- or the rows are, or the file is judged or reported on
abbrev pub IsDone : FileFacts → Option (List ℕ) → Option (List ℕ) → Request → Outcome → Type 0
IsDone files before after (Text source direction file print) Printed =
    HasPrinted files (printed_text print direction) source file.now before after
IsDone files before after (ExplainClasses word direction) Printed = HasExplained word.now direction before after
IsDone files before after (ExplainCodes word source direction) Printed =
    HasExplainedCodes files word.now source direction before after
IsDone files before after (ExplainRow wanted) Printed = HasExplainedRow files wanted before after
IsDone files before after (Judge Classes tables file) (Judged status) =
    HasJudged files IsClassesVerdict file.now before after status
IsDone files before after (Judge Characters (Some source) file) (Judged status) =
    HasJudgedBy files source file.now before after status
IsDone files before after (Report kind tables file options) (Judged status) =
    HasReported files kind tables file.now options before after status
IsDone files before after (Rows asked) Printed = HasPrintedRows files asked before after
IsDone files before after (RowsOf asked) Printed = HasPrintedLines files asked before after
IsDone files before after _ _ = ⊥

-- the output breaks off while a file is read: that of a text if a read fails, if the text is not UTF-8 or if an
-- allocation fails, that of a report if a read fails, and both if nobody reads the output any more; all other requests
-- print nothing before they have read what they need
abbrev pub BreaksOff : FileFacts → Option (List ℕ) → Option (List ℕ) → Request → Fault → Type 0
BreaksOff files before after (Text source direction file Levels) fault =
    TextBreaksOff files form.Levels direction source file.now before after fault
BreaksOff files before after (Text source direction file (Reorder columns)) fault =
    TextBreaksOff files (form.Reorder columns) direction source file.now before after fault
BreaksOff files before after (Report kind tables file options) fault =
    HasBrokenOff files kind tables file.now options before after fault
BreaksOff files before after _ fault = ⊥

-- a request fails: in a part that is read before anything is written, or by a write after everything was read, or
-- because its output breaks off
abbrev pub Fails : FileFacts → Option (List ℕ) → Option (List ℕ) → Request → Fault → Type 0
Fails files before after request fault =
    FailsOver (parts_of files request) (all_parts_of files request) before after fault
    ⊎ BreaksOff files before after request fault

-- the requests that write nothing if an allocation fails: to judge or report on a file, or to print rows
abbrev pub takes_memory_first : Request → Bool
takes_memory_first (Judge kind tables file) = true
takes_memory_first (Report kind tables file options) = true
takes_memory_first (Rows asked) = true
takes_memory_first (RowsOf asked) = true
takes_memory_first _ = false

-- the output after a failed allocation, for such a request
abbrev pub RequestLeaves : Option (List ℕ) → Option (List ℕ) → Request → Fault → Type 0
RequestLeaves before after request fault = takes_memory_first request ≡ true → MemoryLeaves before after fault

-- a request is done, or it fails
abbrev pub IsDoneOrFails : FileFacts → Option (List ℕ) → Option (List ℕ) → Request → Result Outcome Fault → Type 0
IsDoneOrFails files before after request (Ok outcome) = IsDone files before after request outcome
IsDoneOrFails files before after request (Err fault) = Fails files before after request fault ×
    RequestLeaves before after request fault

-- a run ends without a fault: with this status, and the known contents of standard error are unchanged
pub record EndsWell (status : ℕ) (before after : Option (List ℕ)) (ended : Ended) : Type 0 where
  pub status_is : ended.status ≡ status
  pub written : ended.is_written ≡ true
  pub noted : ended.is_reported ≡ true
  pub silent : after ≡ before

-- a run ends with the result of its request: with its status, and if a fault is reported, the known contents of
-- standard error grew by the fault's text
abbrev pub EndsAs : Detail → Result Outcome Fault → Option (List ℕ) → Option (List ℕ) → Ended → Type 0
EndsAs detail (Ok outcome) before after ended = EndsWell (outcome_status outcome) before after ended
EndsAs detail (Err fault) before after ended = EndsBy detail fault before after ended

-- a request had this outcome, with this growth of `out`, and the run ended so, with this growth of `err`
pub record HasEnded (files : FileFacts) (before after : Option (List ℕ)) (err_before err_after : Option (List ℕ))
    (request : Request) (detail : Detail) (ended : Ended) : Type 0 where
  pub outcome : Result Outcome Fault
  pub comes : IsDoneOrFails files before after request outcome
  pub ends : EndsAs detail outcome err_before err_after ended

-- The result of a run, from the result of reading its arguments.
use Rattle.std.specs.Prelude.{◌≡◌, ◌≢◌, ◌⊎◌, ℕ, List, [], ◌∷◌, Option, Result, Ok, Err, codes, true}
use Rattle.std.specs.List.{concat}
use Rattle.std.specs.Io.KnownBytes.{Appends}
use Rattle.clap.specs.Values.{kind_of}
use Rattle.clap.specs.declared.error.Error.{Error}
use Rattle.clap.specs.declared.error.kind.ErrorKind.{ErrorKind}
use Rattle.clap.specs.declared.error.kind.ErrorKind.TheVariants as kind
use Rattle.command.specs.declared.help.TheConstants.{BIDI_VERSION}
use Rattle.requests.specs.FaultText.{EndsBy}
use Rattle.requests.specs.Outcomes.{EndsWell, HasEnded, IsDone}
use Rattle.requests.specs.ReadFiles.{FileFacts}
use Rattle.requests.specs.declared.fault.Detail.TheVariants.{Brief}
use Rattle.requests.specs.declared.fault.Fault.TheVariants.{CannotWrite, OutOfMemory}
use Rattle.requests.specs.declared.outcome.Ended.{Ended}
use Rattle.requests.specs.declared.outcome.Outcome.TheVariants.{Judged}
use Rattle.command.specs.CommandLine.{IsRead, IsReadAs}
use Rattle.command.specs.Rejections.{no_request_text}
use Rattle.command.specs.declared.invocation.Invocation.{Invocation}
use Rattle.command.specs.declared.rejection.NoRequest.{NoRequest}
use Rattle.command.specs.declared.rejection.WordsFault.{WordsFault}
use Rattle.command.specs.declared.rejection.WordsFault.TheVariants as fault

-- the arguments ask for help or the version
abbrev pub AsksForHelp : Error → Type 0
AsksForHelp error = (kind_of error ≡ kind.DisplayHelp) ⊎ (kind_of error ≡ kind.DisplayVersion)

-- the arguments are rejected
abbrev pub RejectsWords : Error → Type 0
RejectsWords error = (kind_of error ≢ kind.OutOfMemory) × (kind_of error ≢ kind.DisplayHelp) ×
    (kind_of error ≢ kind.DisplayVersion)

-- the version text: the product's name, and the version after it
abbrev pub version_text : List ℕ
version_text = concat (codes "bidi " ∷ BIDI_VERSION.now ∷ codes "\n" ∷ [])

-- what was requested is printed: the known output grew by the version text; the text of help is not stated
abbrev pub IsPrinted : Option (List ℕ) → Option (List ℕ) → ErrorKind → Type 0
IsPrinted before after kind.DisplayVersion = Appends before after version_text
IsPrinted before after _ = Unit {0}

-- the end of a run whose arguments give this error of `clap`: help or the version is requested and printed, or its
-- write failed; or an allocation failed; or the arguments are rejected, nothing is printed, and no write to the output
-- failed
abbrev pub EndsWithout : Option (List ℕ) → Option (List ℕ) → Option (List ℕ) → Option (List ℕ) → Error → Ended → Type 0
EndsWithout before after err_before err_after error ended =
    (AsksForHelp error × IsPrinted before after (kind_of error) × EndsWell 0 err_before err_after ended)
    ⊎ ((AsksForHelp error × EndsBy Brief CannotWrite err_before err_after ended)
    ⊎ (((kind_of error ≡ kind.OutOfMemory) × (after ≡ before) × EndsBy Brief OutOfMemory err_before err_after ended)
    ⊎ (RejectsWords error × (after ≡ before) × (ended.status ≡ 2) × (ended.is_written ≡ true))))

-- the end of a run whose arguments are accepted but make no request, for this reason: nothing is printed, no write to
-- the output failed, and if the reason is reported, the known contents of standard error grew by its text
pub record EndsUnasked (why : NoRequest) (before after err_before err_after : Option (List ℕ))
    (ended : Ended) : Type 0 where
  pub status_is : ended.status ≡ 2
  pub written : ended.is_written ≡ true
  pub unprinted : after ≡ before
  pub says : ended.is_reported ≡ true → Appends err_before err_after (no_request_text why)

-- the end of a run whose arguments make no request, for this reason
abbrev pub EndsUnread : Option (List ℕ) → Option (List ℕ) → Option (List ℕ) → Option (List ℕ) → WordsFault → Ended →
    Type 0
EndsUnread before after err_before err_after (fault.ByClap error) ended =
    EndsWithout before after err_before err_after error ended
EndsUnread before after err_before err_after (fault.NoRequest why) ended =
    EndsUnasked why before after err_before err_after ended

-- the end of a run with this result of reading its arguments: before and after are the output, err_before and err_after
-- standard error
abbrev pub EndsAsRead : FileFacts → Option (List ℕ) → Option (List ℕ) → Option (List ℕ) → Option (List ℕ) →
    Result Invocation WordsFault → Ended → Type 0
EndsAsRead files before after err_before err_after (Ok invocation) ended =
    HasEnded files before after err_before err_after invocation.request invocation.detail ended
EndsAsRead files before after err_before err_after (Err fault) ended =
    EndsUnread before after err_before err_after fault ended

-- the arguments were read, and the run ended with what they ask for
pub record HasRun (files : FileFacts) (before after err_before err_after : Option (List ℕ)) (words : List (List ℕ))
    (ended : Ended) : Type 0 where
  pub read : Result Invocation WordsFault
  pub is : IsReadAs words read
  pub ends : EndsAsRead files before after err_before err_after read ended

-- the arguments were read as a request, and its result is a no, or a report on a file that is not right
abbrev pub RequestCameToNo : FileFacts → Option (List ℕ) → Option (List ℕ) → Result Invocation WordsFault → Type 0
RequestCameToNo files before after read =
    (invocation : Invocation) × (read ≡ Ok invocation) × IsDone files before after invocation.request (Judged 1)

-- the arguments are read as a request, and its result is a no, or a report on a file that is not right
abbrev pub HasComeToNo : FileFacts → Option (List ℕ) → Option (List ℕ) → List (List ℕ) → Type 0
HasComeToNo files before after words =
    (invocation : Invocation) × IsRead words invocation × IsDone files before after invocation.request (Judged 1)

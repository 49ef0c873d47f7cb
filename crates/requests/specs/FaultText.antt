-- How a fault is reported: its line on standard error, a second line with its reason if that is requested, and the exit
-- status.
use Rattle.std.specs.Prelude.{◌≡◌, ℕ, Bool, List, [], ◌∷◌, ◌++◌, Option, codes, true, false}
use Rattle.std.specs.List.{concat}
use Rattle.std.specs.Fmt.{decimal}
use Rattle.std.specs.Io.KnownBytes.{Appends}
use Rattle.units.specs.declared.unread.Unread.{Unread}
use Rattle.ucdfiles.specs.declared.fault.TableFault.{TableFault}
use Rattle.ucdfiles.specs.Faults.{name_of}
use Rattle.bidtests.specs.VerdictText.{cause_name}
use Rattle.bidtests.specs.declared.verdict.Cause.{Cause}
use Rattle.printing.specs.declared.fault.PrintFault.{PrintFault}
use Rattle.printing.specs.declared.fault.PrintFault.TheVariants.{Write, Memory}
use Rattle.requests.specs.ReadFiles.{NamedFile, named_file}
use Rattle.requests.specs.Reasons.{reason_line, reason_of}
use Rattle.requests.specs.declared.fault.Detail.{Detail}
use Rattle.requests.specs.declared.fault.Detail.TheVariants.{Brief, Verbose}
use Rattle.requests.specs.declared.fault.Fault.{Fault}
use Rattle.requests.specs.declared.outcome.Ended.{Ended}
use Rattle.requests.specs.declared.fault.Fault.TheVariants.{WordNotUtf8, TablesNeeded, ClassesTooLong, CodesTooLong, NoClass, NoCodePoint, NoLengths, NoDirection, NoDirections, NoRows, LineIsNoRow, CannotRead, FaultyLine, NotUtf8, LongLine, MalformedLine, CannotWrite, NobodyReads, OutOfMemory}
use Rattle.printing.specs.LevelsText.{line_feed}
use Rattle.printing.specs.declared.written.Written.{Written}
use Rattle.printing.specs.declared.written.Written.TheVariants.{Whole, CutOff}
use Rattle.rows.specs.declared.fault.RowsFault.{RowsFault}
use Rattle.rows.specs.declared.fault.RowsFault.TheVariants as rejected

-- the line that reports a faulty line of a table's file: the file's name, the line's number from 1, and the fault's
-- name
abbrev pub faulty_line_text : List ℕ → ℕ → TableFault → List ℕ
faulty_line_text name line fault =
    concat (codes "bidi: " ∷ name ∷ codes ": line " ∷ decimal line ∷ codes ": " ∷ name_of fault ∷ line_feed ∷ [])

-- the line that reports that an item is not the name of a class
abbrev pub no_class_text : List ℕ → List ℕ
no_class_text name = concat (codes "bidi: " ∷ name ∷ codes " is no class" ∷ line_feed ∷ [])

-- the line that reports that an item is not a code point
abbrev pub no_code_point_text : List ℕ → List ℕ
no_code_point_text item = concat (codes "bidi: " ∷ item ∷ codes " is no code point" ∷ line_feed ∷ [])

-- the line that reports that an item is not a direction
abbrev pub no_direction_text : List ℕ → List ℕ
no_direction_text item = concat (codes "bidi: " ∷ item ∷ codes " is no direction" ∷ line_feed ∷ [])

-- why texts can't be enumerated or drawn
abbrev pub rows_rejection : RowsFault → List ℕ
rows_rejection rejected.NoLetter = codes "--alphabet or --form gives no letter of this kind"
rows_rejection rejected.NoLength = codes "--length begins at 0"
rows_rejection rejected.TooLong = codes "--length ends above 4095"
rows_rejection rejected.TooMany = codes "there are too many texts"
rows_rejection rejected.NoneBetween = codes "--length ends before it begins"

-- the line that reports why texts can't be enumerated or drawn
abbrev pub no_rows_text : RowsFault → List ℕ
no_rows_text fault = concat (codes "bidi: " ∷ rows_rejection fault ∷ line_feed ∷ [])

-- the line that reports that the file of this name can't be read
abbrev pub unread_text : List ℕ → List ℕ
unread_text name = concat (codes "bidi: cannot read " ∷ name ∷ line_feed ∷ [])

-- the line that reports that the text in the file of this name is not UTF-8
abbrev pub not_utf8_text : List ℕ → List ℕ
not_utf8_text name = concat (codes "bidi: " ∷ name ∷ codes ": not UTF-8" ∷ line_feed ∷ [])

-- the line that reports that a line of the text in the file of this name, by its number from 1, is too long for a row
abbrev pub long_line_text : List ℕ → ℕ → List ℕ
long_line_text name line =
    concat (codes "bidi: " ∷ name ∷ codes ": line " ∷ decimal line ∷ codes ": too long" ∷ line_feed ∷ [])

-- the line that reports that a line of the conformance file of this name, by its number from 1, is not a row
abbrev pub no_row_text : List ℕ → ℕ → List ℕ
no_row_text name line =
    concat (codes "bidi: " ∷ name ∷ codes ": line " ∷ decimal line ∷ codes " is no row" ∷ line_feed ∷ [])

-- the line that reports why such a line is malformed
abbrev pub malformed_line_text : List ℕ → ℕ → Cause → List ℕ
malformed_line_text name line cause = concat
    (codes "bidi: " ∷ name ∷ codes ": line " ∷ decimal line ∷ codes ": malformed: " ∷ cause_name cause ∷ line_feed ∷ [])

-- the line that reports that a write failed
abbrev pub cannot_write_text : List ℕ
cannot_write_text = concat (codes "bidi: cannot write" ∷ line_feed ∷ [])

-- the line of a fault
abbrev pub fault_line : Fault → List ℕ
fault_line WordNotUtf8 = concat (codes "bidi: a word is not UTF-8" ∷ line_feed ∷ [])
fault_line TablesNeeded = concat (codes "bidi: --tables is needed" ∷ line_feed ∷ [])
fault_line ClassesTooLong = concat (codes "bidi: --classes is too long" ∷ line_feed ∷ [])
fault_line CodesTooLong = concat (codes "bidi: --codes is too long" ∷ line_feed ∷ [])
fault_line (NoClass word item) = no_class_text item.now
fault_line (NoCodePoint word item) = no_code_point_text item.now
fault_line (NoLengths word) = concat (codes "bidi: " ∷ word.now ∷ codes " is no range of lengths" ∷ line_feed ∷ [])
fault_line (NoDirection word item) = no_direction_text item.now
fault_line NoDirections = concat (codes "bidi: --directions has no direction" ∷ line_feed ∷ [])
fault_line (NoRows fault) = no_rows_text fault
fault_line (LineIsNoRow name line) = no_row_text name.now line
fault_line (CannotRead name folder most unread written) = unread_text name.now
fault_line (FaultyLine name folder line fault) = faulty_line_text name.now line fault
fault_line (NotUtf8 name place written) = not_utf8_text name.now
fault_line (LongLine name line) = long_line_text name.now line
fault_line (MalformedLine name kind line cause) = malformed_line_text name.now line cause
fault_line CannotWrite = cannot_write_text
fault_line NobodyReads = cannot_write_text
fault_line OutOfMemory = concat (codes "bidi: out of memory" ∷ line_feed ∷ [])

-- the text of a fault: its line, and with Verbose the line of its reason
abbrev pub fault_text : Detail → Fault → List ℕ
fault_text Brief fault = fault_line fault
fault_text Verbose fault = fault_line fault ++ reason_line (reason_of fault)

-- 2 if an argument is not UTF-8, not allowed or too long, if needed tables are not named, if texts can't be enumerated
-- or drawn, or if the requested line is not a row; 3 if the run failed
abbrev pub fault_status : Fault → ℕ
fault_status WordNotUtf8 = 2
fault_status TablesNeeded = 2
fault_status ClassesTooLong = 2
fault_status CodesTooLong = 2
fault_status (NoClass word item) = 2
fault_status (NoCodePoint word item) = 2
fault_status (NoLengths word) = 2
fault_status (NoDirection word item) = 2
fault_status NoDirections = 2
fault_status (NoRows fault) = 2
fault_status (LineIsNoRow name line) = 2
fault_status (CannotRead name folder most unread written) = 3
fault_status (FaultyLine name folder line fault) = 3
fault_status (NotUtf8 name place written) = 3
fault_status (LongLine name line) = 3
fault_status (MalformedLine name kind line cause) = 3
fault_status CannotWrite = 3
fault_status NobodyReads = 3
fault_status OutOfMemory = 3

-- everything that was to be written was written
abbrev pub is_whole : Written → Bool
is_whole Whole = true
is_whole CutOff = false

-- no write to the output failed, by this fault or before it
abbrev pub all_written : Fault → Bool
all_written (CannotRead name folder most unread written) = is_whole written
all_written (NotUtf8 name place written) = is_whole written
all_written CannotWrite = false
all_written NobodyReads = false
all_written _ = true

-- a run ends with this fault: with its exit status, and if the fault is reported, the known output grew by its text
pub record EndsBy (detail : Detail) (fault : Fault) (before after : Option (List ℕ)) (ended : Ended) : Type 0 where
  pub status_is : ended.status ≡ fault_status fault
  pub written : ended.is_written ≡ all_written fault
  pub says : ended.is_reported ≡ true → Appends before after (fault_text detail fault)

-- when a fault ends the opening of this file: it can't be opened, for this reason, or an allocation failed
abbrev pub EndsOpening : (Unread → Type 0) → NamedFile → Fault → Type 0
EndsOpening Cannot file (CannotRead name folder most unread Whole) = (named_file name folder most ≡ file) ×
    Cannot unread
EndsOpening Cannot file OutOfMemory = Unit {0}
EndsOpening Cannot file _ = ⊥

-- the fault of a run from the fault of printing
abbrev pub print_fault : PrintFault → Fault
print_fault Write = CannotWrite
print_fault Memory = OutOfMemory

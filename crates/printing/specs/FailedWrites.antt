-- Faults of printing, and the failed writes that they report. `failed` says with which errors the writer's last call
-- failed.
use Rattle.std.specs.Prelude.{◌≡◌, ◌≢◌}
use Rattle.std.specs.IoError.{error_kind}
use Rattle.std.specs.declared.io.Error.{Error}
use Rattle.std.specs.declared.io.ErrorKind.TheVariants.{BrokenPipe}
use Rattle.printing.specs.declared.fault.PrintFault.{PrintFault}
use Rattle.printing.specs.declared.fault.PrintFault.TheVariants as print_fault
use Rattle.printing.specs.declared.fault.PrintStop.{PrintStop}
use Rattle.printing.specs.declared.fault.PrintStop.TheVariants as stop
use Rattle.printing.specs.declared.reading.TextFault.{TextFault}
use Rattle.printing.specs.declared.reading.TextFault.TheVariants.{Read, NotUtf8, Write, NobodyReads, Memory}
use Rattle.printing.specs.declared.written.Written.{Written}
use Rattle.printing.specs.declared.written.Written.TheVariants.{Whole, CutOff}

-- the last call failed because nobody reads what is written any more
abbrev pub HasNoReader : (Error → Type 0) → Type 0
HasNoReader failed = (error : Error) × failed error × (error_kind error ≡ BrokenPipe)

-- the last call failed in another way
abbrev pub HasFailed : (Error → Type 0) → Type 0
HasFailed failed = (error : Error) × failed error × (error_kind error ≢ BrokenPipe)

-- printing stops for this reason only after such a call, or because memory was refused
abbrev pub StopsAfter : (Error → Type 0) → PrintStop → Type 0
StopsAfter failed stop.NobodyReads = HasNoReader failed
StopsAfter failed stop.Write = HasFailed failed
StopsAfter failed stop.Memory = Unit {0}

-- output is reported as cut off only after a call failed
abbrev pub IsCutAfter : (Error → Type 0) → Written → Type 0
IsCutAfter failed Whole = Unit {0}
IsCutAfter failed CutOff = HasFailed failed

-- the fault of a text that is read reports a failed write only after a call failed, and says whether nobody reads
abbrev pub ReportsFailure : (Error → Type 0) → TextFault → Type 0
ReportsFailure failed (Read written) = IsCutAfter failed written
ReportsFailure failed (NotUtf8 place written) = IsCutAfter failed written
ReportsFailure failed Write = HasFailed failed
ReportsFailure failed NobodyReads = HasNoReader failed
ReportsFailure failed Memory = Unit {0}

-- the same of a text that is printed at once
abbrev pub IsFaultAfter : (Error → Type 0) → PrintFault → Type 0
IsFaultAfter failed print_fault.Write = (error : Error) × failed error
IsFaultAfter failed print_fault.Memory = Unit {0}

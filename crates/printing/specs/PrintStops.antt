-- The reasons why printing stops.
use Rattle.std.specs.Prelude.{◌≡◌, ◌≢◌}
use Rattle.std.specs.IoError.{error_kind}
use Rattle.std.specs.declared.io.Error.{Error}
use Rattle.std.specs.declared.io.ErrorKind.TheVariants.{BrokenPipe}
use Rattle.printing.specs.declared.fault.PrintFault.{PrintFault}
use Rattle.printing.specs.declared.fault.PrintFault.TheVariants as print_fault
use Rattle.printing.specs.declared.fault.PrintStop.{PrintStop}
use Rattle.printing.specs.declared.fault.PrintStop.TheVariants.{NobodyReads, Write, Memory}

-- a write that failed with this error stops printing for this reason: nobody reads the output exactly if the error's
-- kind is `BrokenPipe`
pub record IsStopOf (error : Error) (stop : PrintStop) : Type 0 where
  pub broken : error_kind error ≡ BrokenPipe → stop ≡ NobodyReads
  pub other : error_kind error ≢ BrokenPipe → stop ≡ Write

-- the fault of a text that is printed at once
abbrev pub fault_of : PrintStop → PrintFault
fault_of NobodyReads = print_fault.Write
fault_of Write = print_fault.Write
fault_of Memory = print_fault.Memory

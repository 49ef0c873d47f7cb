-- Tables read from the bytes of their files.
use Rattle.std.specs.Prelude.{ℕ, ◌≡◌, ◌⊎◌, IsSome, List, Ok, Err}
use Rattle.ucdfiles.specs.Files.{IsFirstFaulty}
use Rattle.ucdfiles.specs.Faults.{line_of_fault}
use Rattle.ucdfiles.specs.declared.fault.TableFault.{TableFault}
use Rattle.ucdfiles.specs.declared.fault.TableFault.TheVariants as table
use Rattle.ucdfiles.specs.declared.files.FileFault.{FileFault}
use Rattle.ucdfiles.specs.declared.files.FileFault.TheVariants.{Classes, Brackets, Mirrors}
use Rattle.for_c.specs.Statuses.{Outcome, place_of}
use Rattle.for_c.specs.declared.call_error.CallError.{CallError}
use Rattle.for_c.specs.declared.call_error.CallError.TheVariants.{Memory, ClassFile, BracketFile, MirrorFile}
use Rattle.for_c.specs.declared.read_tables.BidiFault.{BidiFault}

-- the error for a fault of a file: that there is not enough memory, or else the one that names the file
abbrev pub error_in : (TableFault → CallError) → TableFault → CallError
error_in file table.Memory = Memory
error_in file fault = file fault

-- the error for the fault of the first bad file
abbrev pub error_of_file : FileFault → CallError
error_of_file (Classes fault) = error_in ClassFile fault
error_of_file (Brackets fault) = error_in BracketFile fault
error_of_file (Mirrors fault) = error_in MirrorFile fault

-- the fault of a file is one of a line
abbrev pub IsOfLine : FileFault → Type 0
IsOfLine (Classes fault) = IsSome (line_of_fault fault)
IsOfLine (Brackets fault) = IsSome (line_of_fault fault)
IsOfLine (Mirrors fault) = IsSome (line_of_fault fault)

-- no tables are read from these bytes for this reason: memory, or a line of the first bad file
abbrev pub RejectsTables : List ℕ → List ℕ → List ℕ → CallError → Type 0
RejectsTables classes brackets mirrors error =
    (error ≡ Memory)
    ⊎ ((fault : FileFault) × (error ≡ error_of_file fault) × IsOfLine fault
    × IsFirstFaulty classes brackets mirrors fault)

-- the number of the kind of a fault, 0 if it is not one of a line
abbrev pub fault_number : TableFault → ℕ
fault_number (table.CodePoint line) = 1
fault_number (table.Backwards line) = 2
fault_number (table.ClassName line) = 3
fault_number (table.Fields line) = 4
fault_number (table.Overlap line) = 5
fault_number (table.Twice line) = 6
fault_number (table.BracketKind line) = 7
fault_number (table.LineTooLong line) = 8
fault_number (table.TooMany line) = 9
fault_number table.Read = 0
fault_number table.Memory = 0

-- the number of the kind of the fault that an error names in a file, 0 if it names none
abbrev pub fault_number_in : CallError → ℕ
fault_number_in (ClassFile fault) = fault_number fault
fault_number_in (BracketFile fault) = fault_number fault
fault_number_in (MirrorFile fault) = fault_number fault
fault_number_in _ = 0

-- the line and the kind of the fault; without an error they are unchanged
abbrev pub fault_named : Outcome → BidiFault → BidiFault
fault_named (Ok done) before = before
fault_named (Err error) before = record { line = place_of error; kind = fault_number_in error }

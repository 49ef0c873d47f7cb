-- How a fault of a table's file is reported, and what it states about the file.
use Rattle.std.specs.Prelude.{◌≡◌, ◌⊎◌, ℕ, List, [], Option, Some, None}
use Rattle.std.specs.Borrow.{Bor}
use Rattle.units.specs.Text.{lines_of, decided_lines}
use Rattle.units.specs.declared.unread.Unread.{Unread}
use Rattle.printing.specs.declared.written.Written.TheVariants.{Whole}
use Rattle.ucdfiles.specs.ClassFile.{class_fault}
use Rattle.ucdfiles.specs.Faults.{first_fault, line_of_fault}
use Rattle.ucdfiles.specs.declared.fault.Fault.{Fault as LineFault}
use Rattle.ucdfiles.specs.declared.fault.TableFault.{TableFault}
use Rattle.ucdfiles.specs.declared.fault.TableFault.TheVariants as table
use Rattle.requests.specs.declared.fault.Fault.{Fault}
use Rattle.requests.specs.declared.fault.Fault.TheVariants.{CannotRead, FaultyLine, OutOfMemory}
use Rattle.requests.specs.FaultText.{EndsOpening}
use Rattle.requests.specs.ReadFiles.{CannotOpen, FileFacts, FileNamed, IsClassPath, NamedFile, class_name, extracted_name, in_folder, most_file_bytes, named_file, table_file}

-- the fault for a table's file of this name in a folder: that of the given line, or else a failed allocation or read,
-- with its reason
abbrev pub fault_at_line : Bor (List ℕ) → Bor (List ℕ) → TableFault → Unread → Option ℕ → Fault
fault_at_line name folder fault unread (Some line) = FaultyLine name folder line fault
fault_at_line name folder table.Memory unread None = OutOfMemory
fault_at_line name folder _ unread None = CannotRead name (Some folder) most_file_bytes unread Whole

-- how the fault of such a file is reported; unread is the reason if a read of it failed
abbrev pub table_fault : Bor (List ℕ) → Bor (List ℕ) → TableFault → Unread → Fault
table_fault name folder fault unread = fault_at_line name folder fault unread (line_of_fault fault)

-- this is the fault of the first faulty line: of the lines that a prefix of the file decides, or of all its lines
abbrev pub HasFault : FileFacts → (List (List ℕ) → List ℕ → Option LineFault) → List ℕ → TableFault → Type 0
HasFault files fault path e = (bytes : List ℕ)
    × ((files.Begins (FileNamed path) most_file_bytes bytes × (first_fault fault [] (decided_lines bytes) ≡ Some e))
    ⊎ (files.Holds (FileNamed path) most_file_bytes bytes × (first_fault fault [] (lines_of bytes) ≡ Some e)))

-- a read fails after bytes without a faulty line, for this reason
abbrev pub FailsFaultless : FileFacts → (List (List ℕ) → List ℕ → Option LineFault) → List ℕ → Unread → Type 0
FailsFaultless files fault path unread = (bytes : List ℕ)
    × files.Fails (FileNamed path) most_file_bytes bytes unread × (first_fault fault [] (decided_lines bytes) ≡ None)

-- the file was read whole, and no line is faulty
abbrev pub IsFaultless : FileFacts → (List (List ℕ) → List ℕ → Option LineFault) → List ℕ → Type 0
IsFaultless files fault path = (bytes : List ℕ) × files.Holds (FileNamed path) most_file_bytes bytes ×
    (first_fault fault [] (lines_of bytes) ≡ None)

-- when a fault that names this file ends the reading of a table's file that was opened: a read fails, the file has a
-- first faulty line, or an allocation failed
abbrev pub EndsReading : FileFacts → (List (List ℕ) → List ℕ → Option LineFault) → List ℕ → NamedFile → Fault → Type 0
EndsReading files fault path file (CannotRead name folder most unread Whole) =
    (named_file name folder most ≡ file) × FailsFaultless files fault path unread
EndsReading files fault path file (FaultyLine name folder line e) =
    (named_file name (Some folder) most_file_bytes ≡ file) × (line_of_fault e ≡ Some line) × HasFault files fault path e
EndsReading files fault path file OutOfMemory = Unit {0}
EndsReading files fault path file _ = ⊥

-- when a fault ends the reading of the folder's table of this name: its file can't be opened, or its reading ends so
abbrev pub EndsTable : FileFacts → (List (List ℕ) → List ℕ → Option LineFault) → List ℕ → List ℕ → Fault → Type 0
EndsTable files fault folder name noted =
    EndsOpening (CannotOpen files folder name) (table_file folder name) noted
    ⊎ EndsReading files fault (in_folder folder name) (table_file folder name) noted

-- neither of the two files of the folder's classes can be opened, the one in the folder for this reason
abbrev pub CannotOpenClasses : FileFacts → List ℕ → Unread → Type 0
CannotOpenClasses files folder unread = CannotOpen files folder class_name unread
    × ((other : Unread) × CannotOpen files folder extracted_name other)

-- when a fault ends the reading of the folder's classes: neither of the two files can be opened, or the reading of the
-- first that opens ends so; the fault names the file in the folder
abbrev pub EndsClasses : FileFacts → List ℕ → Fault → Type 0
EndsClasses files folder noted =
    EndsOpening (CannotOpenClasses files folder) (table_file folder class_name) noted
    ⊎ ((path : List ℕ) × IsClassPath files folder path ×
    EndsReading files class_fault path (table_file folder class_name) noted)

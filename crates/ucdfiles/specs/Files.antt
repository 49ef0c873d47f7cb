-- Tables made from the bytes of the three files.
use Rattle.std.specs.Prelude.{ℕ, ◌≡◌, ◌≢◌, ◌++◌, Option, None, List, []}
use Rattle.ucdfiles.specs.ClassFile.{StatesClasses, class_fault, class_file_fault}
use Rattle.ucdfiles.specs.PairFiles.{StatesBrackets, StatesMirrors, bracket_fault, bracket_file_fault, mirror_fault}
use Rattle.ucdfiles.specs.Reading.{IsFault}
use Rattle.ucdfiles.specs.Tables.{TablesOf, class_by, bracket_by, mirror_by}
use Rattle.ucdfiles.specs.declared.fault.Fault.{Fault}
use Rattle.ucdfiles.specs.declared.fault.TableFault.{TableFault}
use Rattle.ucdfiles.specs.declared.fault.TableFault.TheVariants.{Read}
use Rattle.ucdfiles.specs.declared.files.FileFault.{FileFault}
use Rattle.ucdfiles.specs.declared.files.FileFault.TheVariants.{Classes, Brackets, Mirrors}

-- the tables that the bytes of the three files state
pub record StateTables (classes brackets mirrors : List ℕ) (tables : TablesOf) : Type 0 where
  pub by_classes : StatesClasses classes (class_by tables.classes)
  pub by_brackets : StatesBrackets brackets (bracket_by tables.brackets)
  pub by_mirrors : StatesMirrors mirrors (mirror_by tables.mirrors)

-- this is the fault of the bytes of a file, as far as they were read: never a failed read
pub record IsFaulty (fault : List (List ℕ) → List ℕ → Option Fault) (bytes : List ℕ) (e : TableFault) : Type 0 where
  pub given : List ℕ
  pub remaining : List ℕ
  pub front : bytes ≡ given ++ remaining
  pub unfailing : e ≢ Read
  pub is : IsFault fault (remaining ≡ []) given e

-- this is the fault of the first faulty file of the three
abbrev pub IsFirstFaulty : List ℕ → List ℕ → List ℕ → FileFault → Type 0
IsFirstFaulty classes brackets mirrors (Classes e) = IsFaulty class_fault classes e
IsFirstFaulty classes brackets mirrors (Brackets e) =
    (class_file_fault classes ≡ None) × IsFaulty bracket_fault brackets e
IsFirstFaulty classes brackets mirrors (Mirrors e) =
    (class_file_fault classes ≡ None) × (bracket_file_fault brackets ≡ None) × IsFaulty mirror_fault mirrors e

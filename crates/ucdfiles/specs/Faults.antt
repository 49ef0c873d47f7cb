-- The fault of the first faulty line.
use Rattle.std.specs.Prelude.{◌≡◌, ◌⊎◌, Option, ℕ, codes, List, [], ◌∷◌, ◌++◌, length, Some, None}
use Rattle.std.specs.Option.{option_map, option_or}
use Rattle.units.specs.Lines.{line_number}
use Rattle.ucdfiles.specs.declared.fault.Fault.{Fault}
use Rattle.ucdfiles.specs.declared.fault.Fault.TheVariants as kind
use Rattle.ucdfiles.specs.declared.fault.TableFault.{TableFault}
use Rattle.ucdfiles.specs.declared.fault.TableFault.TheVariants.{CodePoint, Backwards, ClassName, Fields, Overlap, Twice, BracketKind, LineTooLong, TooMany, Read, Memory}

-- a fault of the line with this number
abbrev pub fault_at : Fault → ℕ → TableFault
fault_at kind.CodePoint line = CodePoint line
fault_at kind.Backwards line = Backwards line
fault_at kind.ClassName line = ClassName line
fault_at kind.Fields line = Fields line
fault_at kind.Overlap line = Overlap line
fault_at kind.Twice line = Twice line
fault_at kind.BracketKind line = BracketKind line
fault_at kind.LineTooLong line = LineTooLong line
fault_at kind.TooMany line = TooMany line

-- the error for a line with this number: memory, or the line's fault
abbrev pub FailsAt : ℕ → Option Fault → TableFault → Type 0
FailsAt number fault e = (e ≡ Memory) ⊎ (option_map (λ f. fault_at f number) fault ≡ Some e)

-- the name of a fault
abbrev pub name_of : TableFault → List ℕ
name_of (CodePoint line) = codes "CodePoint"
name_of (Backwards line) = codes "Backwards"
name_of (ClassName line) = codes "ClassName"
name_of (Fields line) = codes "Fields"
name_of (Overlap line) = codes "Overlap"
name_of (Twice line) = codes "Twice"
name_of (BracketKind line) = codes "BracketKind"
name_of (LineTooLong line) = codes "LineTooLong"
name_of (TooMany line) = codes "TooMany"
name_of Read = codes "Read"
name_of Memory = codes "Memory"

-- the line of a fault, if it has one
abbrev pub line_of_fault : TableFault → Option ℕ
line_of_fault (CodePoint line) = Some line
line_of_fault (Backwards line) = Some line
line_of_fault (ClassName line) = Some line
line_of_fault (Fields line) = Some line
line_of_fault (Overlap line) = Some line
line_of_fault (Twice line) = Some line
line_of_fault (BracketKind line) = Some line
line_of_fault (LineTooLong line) = Some line
line_of_fault (TooMany line) = Some line
line_of_fault Read = None
line_of_fault Memory = None

-- the fault of a line above the greatest length
abbrev pub over_long_line : Fault
over_long_line = kind.LineTooLong

-- the fault of the line after this number of lines
abbrev pub fault_of_line : ℕ → Option Fault → Option TableFault
fault_of_line index None = None
fault_of_line index (Some fault) = Some (fault_at fault (line_number index))

-- the fault of the first faulty line; a line is checked against the earlier ones
abbrev pub first_fault : (List (List ℕ) → List ℕ → Option Fault) → List (List ℕ) → List (List ℕ) → Option TableFault
first_fault fault earlier [] = None
first_fault fault earlier (line ∷ lines) =
    option_or (fault_of_line (length earlier) (fault earlier line)) (first_fault fault (earlier ++ line ∷ []) lines)

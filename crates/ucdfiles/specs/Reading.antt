-- A table made from the lines of a source.
use Rattle.std.specs.Prelude.{Option, ℕ, ◌≡◌, ◌≢◌, ◌<◌, ◌⊎◌, List, [], ◌∷◌, ◌++◌, length, Some, None, Result, Ok, Err}
use Rattle.units.specs.Text.{lines_of, decided_lines}
use Rattle.units.specs.LineCutting.{Cutting, Represents}
use Rattle.units.specs.Lines.{CutsInto}
use Rattle.units.specs.declared.line_cut.Cut.{Cut}
use Rattle.units.specs.declared.line_cut.Cut.TheVariants.{More, Line, TooLong}
use Rattle.ucdfiles.specs.declared.fault.Fault.{Fault}
use Rattle.ucdfiles.specs.declared.fault.TableFault.{TableFault}
use Rattle.ucdfiles.specs.declared.fault.TableFault.TheVariants.{Read, Memory, LineTooLong}
use Rattle.ucdfiles.specs.Faults.{FailsAt, first_fault}

-- a line splitter and a table that were given these bytes, in any pieces; no line that ended was faulty
pub record Reads (represents : List (List ℕ) → Type 0) (fault : List (List ℕ) → List ℕ →
    Option Fault) (splitter : Cutting) (bytes : List ℕ) : Type 0 where
  pub cuts : Represents splitter bytes
  pub lines : List (List ℕ)
  pub rest : List ℕ
  pub whole : CutsInto bytes lines rest
  pub table : represents lines
  pub faultless : first_fault fault [] lines ≡ None

-- a line after those of a table has no fault, and the table takes it
abbrev pub TakesLine : (List (List ℕ) → Type 0) → (List (List ℕ) → Type 0) → (List (List ℕ) → List ℕ → Option Fault) →
    List ℕ → Type 0
TakesLine before after fault line =
    (lines : List (List ℕ)) → before lines → (fault lines line ≡ None) × after (lines ++ line ∷ [])

-- the error for a line with this number after those of a table
abbrev pub IsLineError : (List (List ℕ) → Type 0) → (List (List ℕ) → List ℕ → Option Fault) → ℕ → List ℕ → TableFault →
    Type 0
IsLineError before fault number line e = (lines : List (List ℕ)) → before lines → FailsAt number (fault lines line) e

-- the effect on a table of a line that was cut
abbrev pub IsCut : (List (List ℕ) → Type 0) → (List (List ℕ) → Type 0) → (List (List ℕ) → List ℕ → Option Fault) → Cut →
    Type 0
IsCut before after fault More = (lines : List (List ℕ)) → before lines → after lines
IsCut before after fault (Line number text) = TakesLine before after fault text.now
IsCut before after fault (TooLong number) = ⊥

-- the error for a line that was cut
abbrev pub IsCutError : (List (List ℕ) → Type 0) → (List (List ℕ) → List ℕ → Option Fault) → Cut → TableFault → Type 0
IsCutError before fault More e = ⊥
IsCutError before fault (Line number text) e = IsLineError before fault number text.now e
IsCutError before fault (TooLong number) e = e ≡ LineTooLong number

-- a growth was refused, or this is the fault of the first faulty line among those that no later bytes change
abbrev pub RejectsBytes : (List (List ℕ) → List ℕ → Option Fault) → List ℕ → TableFault → Type 0
RejectsBytes fault bytes e = (e ≡ Memory) ⊎ (first_fault fault [] (decided_lines bytes) ≡ Some e)

-- a line splitter and a table that were given some bytes are given this piece after them
abbrev pub ReadsOn : (List (List ℕ) → Type 0) → (List (List ℕ) → Type 0) → (List (List ℕ) → List ℕ → Option Fault) →
    Cutting → Cutting → List ℕ → Type 0
ReadsOn before after fault old new piece =
    (b : List ℕ) → Reads before fault old b → Reads after fault new (b ++ piece)

-- all lines of the bytes, the last one too, state the table
abbrev pub EndsFaultless : (List (List ℕ) → Type 0) → (List (List ℕ) → Type 0) →
    (List (List ℕ) → List ℕ → Option Fault) → Cutting → Type 0
EndsFaultless before after fault splitter =
    (b : List ℕ) → Reads before fault splitter b → (first_fault fault [] (lines_of b) ≡ None) × after (lines_of b)

-- a growth was refused at the end of these bytes, or this is the fault of their first faulty line
abbrev pub EndsFaulty : (List (List ℕ) → Type 0) → (List (List ℕ) → List ℕ → Option Fault) → Cutting → TableFault →
    Type 0
EndsFaulty before fault splitter e =
    (b : List ℕ) → Reads before fault splitter b → (e ≡ Memory) ⊎ (first_fault fault [] (lines_of b) ≡ Some e)

-- a reader fails with this fault after these bytes of its source; with `Memory` only after a read that succeeded
pub record IsFault (fault : List (List ℕ) → List ℕ →
    Option Fault) (ended : Type 0) (bytes : List ℕ) (e : TableFault) : Type 0 where
  pub read : e ≡ Read → first_fault fault [] (decided_lines bytes) ≡ None
  pub memory : e ≡ Memory → ended ⊎ (0 < length bytes)
  pub other : e ≢ Read → RejectsBytes fault bytes e ⊎ (ended × (first_fault fault [] (lines_of bytes) ≡ Some e))

-- what a reader returns: the table that all lines state, or a fault
abbrev pub IsOutcome : (List (List ℕ) → Type 0) → (List (List ℕ) → List ℕ → Option Fault) → Type 0 →
    Result (Unit {0}) TableFault → List ℕ → Type 0
IsOutcome represents fault ended (Ok done) bytes = ended × (first_fault fault [] (lines_of bytes) ≡ None) ×
    represents (lines_of bytes)
IsOutcome represents fault ended (Err e) bytes = IsFault fault ended bytes e

-- a source reached this state, and this property holds of the bytes that it returned on the way
abbrev pub OfBytes : {S : Type 0} → (List ℕ → S → Type 0) → S → (List ℕ → Type 0) → Type 0
OfBytes gives now P = (given : List ℕ) × gives given now × P given

-- a source reached this state and has ended, and this property holds of all bytes that it returned on the way
abbrev pub OfAllBytes : {S : Type 0} → (List ℕ → S → Type 0) → (S → Type 0) → S → (List ℕ → Type 0) → Type 0
OfAllBytes gives ended now P = (given : List ℕ) × gives given now × ended now × P given

-- What the lines of a property file state: the fault of a line after the earlier ones, and the value of a code point.
use Rattle.std.specs.Prelude.{Option, ℕ, ◌≡◌, ◌≤◌, List, [], ◌∷◌, ◌++◌, length, map, Some, None, Result, Ok, Err}
use Rattle.std.specs.List.{find, list_any}
use Rattle.units.specs.Text.{lines_of}
use Rattle.ucdfiles.specs.declared.fault.Fault.{Fault}
use Rattle.ucdfiles.specs.declared.fault.TableFault.{TableFault}
use Rattle.ucdfiles.specs.declared.span.Span.{Span}
use Rattle.ucdfiles.specs.declared.span.FileLine.{FileLine}
use Rattle.ucdfiles.specs.declared.span.FileLine.TheVariants.{Silent, Data, Default, Faulty}
use Rattle.ucdfiles.specs.Faults.{first_fault}
use Rattle.ucdfiles.specs.Spans.{holds, overlaps, Adds, data_fault, default_fault, value_in}

-- a line of this kind, or its fault
abbrev pub span_says : {V : Type 0} → (Span V → FileLine V) → Result (Span V) Fault → FileLine V
span_says kind (Ok span) = kind span
span_says kind (Err fault) = Faulty fault

-- the data lines
abbrev pub data_of : {V : Type 0} → List (FileLine V) → List (Span V)
data_of [] = []
data_of (Data span ∷ lines) = span ∷ data_of lines
data_of (_ ∷ lines) = data_of lines

-- the default lines
abbrev pub defaults_of : {V : Type 0} → List (FileLine V) → List (Span V)
defaults_of [] = []
defaults_of (Default span ∷ lines) = span ∷ defaults_of lines
defaults_of (_ ∷ lines) = defaults_of lines

-- the fault of a line after these: its own, or that of another line of its kind
abbrev pub fault_after : {V : Type 0} → Fault → List (FileLine V) → FileLine V → Option Fault
fault_after taken earlier Silent = None
fault_after taken earlier (Faulty fault) = Some fault
fault_after taken earlier (Data span) = data_fault taken (data_of earlier) span
fault_after taken earlier (Default span) = default_fault (defaults_of earlier)

-- the fault of a line of bytes after these
abbrev pub line_fault : {V : Type 0} → (List ℕ → FileLine V) → Fault → List (List ℕ) → List ℕ → Option Fault
line_fault says taken earlier line = fault_after taken (map says earlier) (says line)

-- the fault of the first faulty line of these bytes
abbrev pub file_fault : {V : Type 0} → (List ℕ → FileLine V) → Fault → List ℕ → Option TableFault
file_fault says taken bytes = first_fault (line_fault says taken) [] (lines_of bytes)

-- the value that these lines state for a code point: that of the one data line that contains it, else that of the last
-- default line that contains it
abbrev pub value_stated : {V : Type 0} → List (FileLine V) → ℕ → Option V
value_stated lines c = value_in (data_of lines) (defaults_of lines) c

-- the value that the lines of these bytes state for a code point
abbrev pub value_of : {V : Type 0} → (List ℕ → FileLine V) → List ℕ → ℕ → Option V
value_of says bytes c = value_stated (map says (lines_of bytes)) c

-- the data lines, in order, and the default lines, in the order of the file
pub record Stated (V : Type 0) : Type 0 where
  pub data_lines : List (Span V)
  pub default_lines : List (Span V)

-- the fault of a line after those that were stated
abbrev pub stated_fault : {V : Type 0} → Fault → Stated V → FileLine V → Option Fault
stated_fault taken stated Silent = None
stated_fault taken stated (Faulty fault) = Some fault
stated_fault taken stated (Data span) = data_fault taken stated.data_lines span
stated_fault taken stated (Default span) = default_fault stated.default_lines

-- the effect of a line that is not faulty
abbrev pub Becomes : {V : Type 0} → Fault → Stated V → FileLine V → Stated V → Type 0
Becomes taken old Silent new = new ≡ old
Becomes taken old (Faulty fault) new = ⊥
Becomes taken old (Data span) new = Adds old.data_lines span new.data_lines ×
    (data_fault taken old.data_lines span ≡ None) × (new.default_lines ≡ old.default_lines)
Becomes taken old (Default span) new = (new.default_lines ≡ old.default_lines ++ span ∷ []) ×
    (default_fault old.default_lines ≡ None) × (new.data_lines ≡ old.data_lines)

-- these are the statements of these lines
pub record IsStatedBy {V : Type 0} (stated : Stated V) (lines : List (FileLine V)) : Type 0 where
  pub finds : (c : ℕ) → find (holds c) stated.data_lines ≡ find (holds c) (data_of lines)
  pub meets : (span : Span V) → list_any (overlaps span) stated.data_lines ≡ list_any (overlaps span) (data_of lines)
  pub counts : length stated.data_lines ≡ length (data_of lines)
  pub defaults : stated.default_lines ≡ defaults_of lines

-- these are the statements of these lines of bytes
abbrev pub AreStatedBy : {V : Type 0} → (List ℕ → FileLine V) → Stated V → List (List ℕ) → Type 0
AreStatedBy says stated lines = IsStatedBy stated (map says lines)

-- the first code point of a data line's span is at most its last
abbrev pub IsRisingLine : {V : Type 0} → FileLine V → Type 0
IsRisingLine Silent = Unit {0}
IsRisingLine (Data span) = span.first ≤ span.last
IsRisingLine (Default span) = Unit {0}
IsRisingLine (Faulty fault) = Unit {0}

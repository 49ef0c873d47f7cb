-- DerivedBidiClass.txt: what a line states by itself, and the classes that the lines state.
use Rattle.std.specs.Prelude.{◌≡◌, ◌≤◌, Option, ℕ, nat_lt, nat_eq, if◌then◌else◌, ◌==◌, List, [], ◌∷◌, length, Some, None, Result, Ok, Err, drop, codes}
use Rattle.std.specs.List.{starts_with, after_first}
use Rattle.std.specs.Option.{option_or, unwrap_or}
use Rattle.units.specs.Text.{longest_line, content_of, fields_of, without_blanks_before, ends_of}
use Rattle.units.specs.ClassNames.{class_of_short, class_of_long}
use Rattle.units.specs.declared.class.Class.{Class}
use Rattle.units.specs.declared.class.Class.TheVariants.{L}
use Rattle.ucdfiles.specs.declared.fault.Fault.{Fault}
use Rattle.ucdfiles.specs.declared.fault.Fault.TheVariants.{CodePoint, Backwards, ClassName, Fields, LineTooLong, Overlap}
use Rattle.ucdfiles.specs.declared.fault.TableFault.{TableFault}
use Rattle.ucdfiles.specs.declared.span.Span.{Span}
use Rattle.ucdfiles.specs.declared.span.FileLine.{FileLine}
use Rattle.ucdfiles.specs.declared.span.FileLine.TheVariants.{Silent, Data, Default, Faulty}
use Rattle.ucdfiles.specs.Statements.{span_says, line_fault, file_fault, value_of}

-- the class that has this short or long name, as default lines may name it
abbrev pub class_of_name : List ℕ → Option Class
class_of_name name = option_or (class_of_short name) (class_of_long name)

-- the code points between these ends, and their class, if it has a name
abbrev pub with_class : ℕ × ℕ → Option Class → Result (Span Class) Fault
with_class ends None = Err ClassName
with_class ends (Some class) = Ok (record { first = ends.0; last = ends.1; value = class })

-- the range, or its fault: the ends first, then the name
abbrev pub range_read : Option (ℕ × ℕ) → Option Class → Result (Span Class) Fault
range_read None class = Err CodePoint
range_read (Some ends) class = if nat_lt ends.1 ends.0 then Err Backwards else with_class ends class

-- what two fields state: a code point or a range, and the name of a class
abbrev pub range_in : (List ℕ → Option Class) → List (List ℕ) → Result (Span Class) Fault
range_in named (range ∷ name ∷ []) = range_read (ends_of range) (named name)
range_in named _ = Err Fields

-- what a comment states: a default if it begins with `@missing:`
abbrev pub comment_says : List ℕ → FileLine Class
comment_says comment =
    if starts_with nat_eq comment (codes "@missing:") then span_says Default
    (range_in class_of_name (fields_of (content_of (drop 9 comment)))) else Silent

-- what a line with this content states: its comment is read only if the content is empty
abbrev pub class_content_says : List ℕ → List ℕ → FileLine Class
class_content_says line [] = comment_says (without_blanks_before (after_first (λ b. b == 35) line))
class_content_says line (b ∷ bs) = span_says Data (range_in class_of_short (fields_of (b ∷ bs)))

-- what a line states
unfoldable pub class_line_says : List ℕ → FileLine Class
class_line_says line =
    if nat_lt longest_line (length line) then Faulty LineTooLong else class_content_says line (content_of line)

-- the fault of a line after the earlier ones
abbrev pub class_fault : List (List ℕ) → List ℕ → Option Fault
class_fault earlier line = line_fault class_line_says Overlap earlier line

-- the fault of the first faulty line
unfoldable pub class_file_fault : List ℕ → Option TableFault
class_file_fault bytes = file_fault class_line_says Overlap bytes

-- the class of a code point: that of the one data line that contains it, else that of the last default line that
-- contains it, else L
unfoldable pub class_of : List ℕ → ℕ → Class
class_of bytes c = unwrap_or (value_of class_line_says bytes c) L

-- the bytes are not faulty, and these are the classes that they state for the code points
pub record StatesClasses (bytes : List ℕ) (classes : ℕ → Class) : Type 0 where
  pub faultless : class_file_fault bytes ≡ None
  pub stated : (c : ℕ) → c ≤ 0x10FFFF → classes c ≡ class_of bytes c

-- The contents of a reader of lines, and the finding that it returns for a line.
use Rattle.std.specs.Prelude.{◌≡◌, ◌≤◌, Option, Result, Ok, Err, Some, None, ℕ, Bool, List, length}
use Rattle.std.specs.Option.{option_map}
use Rattle.ucdfiles.specs.Tables.{unit_by}
use Rattle.units.specs.Isolates.{level_of_para}
use Rattle.units.specs.declared.bracket.Unit.{Unit as BidiUnit}
use Rattle.bidtests.specs.declared.kind.Kind.{Kind}
use Rattle.bidtests.specs.declared.kind.Kind.TheVariants.{Classes, Characters}
use Rattle.bidtests.specs.declared.line_reader.Asked.{Asked}
use Rattle.bidtests.specs.declared.verdict.Cause.{Cause}
use Rattle.bidtests.specs.Verdicts.{Expected, Finding, Silent, Row, Faulty}
use Rattle.bidtests.specs.ClassesFile.{ClassesLine, classes_line, comes_to}
use Rattle.bidtests.specs.CharactersFile.{characters_line}
use Rattle.bidtests.specs.Carried.{levels_after, order_after}
use Rattle.bidtests.specs.Readings.{if_read}

-- the contents of a reader of lines: the text of the row that was read last, two lists, and whether each is in force
pub record LineReading : Type 0 where
  pub text : List BidiUnit
  pub levels : List (Option ℕ)
  pub has_levels : Bool
  pub order : List ℕ
  pub has_order : Bool

-- the levels in force
abbrev pub levels_in : LineReading → Option (List (Option ℕ))
levels_in s = if_read s.has_levels s.levels

-- the order in force
abbrev pub order_in : LineReading → Option (List ℕ)
order_in s = if_read s.has_order s.order

-- no list is in force
pub record HasNoList (s : LineReading) : Type 0 where
  pub levels : levels_in s ≡ None
  pub order : order_in s ≡ None

-- what a row with these directions and this level expects, with the text and the lists of the reader
abbrev pub expected_in : LineReading → Asked → Expected
expected_in s asked = record {
  text = s.text;
  directions = asked.directions.now;
  para_level = option_map level_of_para asked.para_level;
  levels = s.levels;
  order = s.order;
}

-- the finding for this result of reading a line, with these contents of the reader
abbrev pub finding_read : Result (Option Asked) Cause → LineReading → Finding
finding_read (Err cause) s = Faulty cause
finding_read (Ok None) s = Silent
finding_read (Ok (Some asked)) s = Row (expected_in s asked)

-- the finding of a line of a classes file with this meaning
abbrev pub finding_by : LineReading → ClassesLine → Finding
finding_by s noted = comes_to (levels_in s) (order_in s) noted

-- the finding of a line of a file of this kind after those that were read
abbrev pub finding_after : Kind → LineReading → List ℕ → Finding
finding_after Classes s line = finding_by s (classes_line line)
finding_after (Characters tables) s line = characters_line (unit_by tables.now) line

-- the lists in force change as this line of a classes file says
pub record HasListed (noted : ClassesLine) (before after : LineReading) : Type 0 where
  pub levels : levels_in after ≡ levels_after noted (levels_in before)
  pub order : order_in after ≡ order_after noted (order_in before)

-- the lists in force change as this line says; in a characters file there are none
abbrev pub IsAfterOneLine : Kind → List ℕ → LineReading → LineReading → Type 0
IsAfterOneLine Classes line before after = HasListed (classes_line line) before after
IsAfterOneLine (Characters tables) line before after = HasNoList after

-- a row names at most four directions
abbrev pub HasFewDirections : Asked → Type 0
HasFewDirections asked = length asked.directions.now ≤ 4

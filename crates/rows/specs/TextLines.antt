-- Rows of a text: each line becomes a row, with the classes or the code points of its characters.
use Rattle.std.specs.Prelude.{Bool, Option, ℕ, nat_lt, List, length, map, filter}
use Rattle.std.specs.List.{flat_map, position_from}
use Rattle.units.specs.Text.{cut_at}
use Rattle.units.specs.declared.level.Direction.{Direction}
use Rattle.ucdfiles.specs.Tables.{unit_by}
use Rattle.bidtests.specs.declared.kind.Kind.{Kind}
use Rattle.bidtests.specs.declared.kind.Kind.TheVariants as kind
use Rattle.rows.specs.Exhaustive.{under_each}
use Rattle.rows.specs.Letters.{letter_by}
use Rattle.rows.specs.Placing.{has_some}
use Rattle.rows.specs.RowTexts.{Case, longest_row}
use Rattle.rows.specs.declared.letter.Letter.{Letter}
use Rattle.rows.specs.declared.letter.Letter.TheVariants as letter
use Rattle.rows.specs.declared.naming.Naming.{Naming}
use Rattle.rows.specs.declared.naming.Naming.TheVariants.{Classes, Codes}

-- the kind of a file whose rows name characters in this way
abbrev pub kind_of : Naming → Kind
kind_of (Classes tables) = kind.Classes
kind_of (Codes tables) = kind.Characters tables

-- a character as a letter of such a row
abbrev pub letter_named : Naming → ℕ → Letter
letter_named (Classes tables) code = letter.Class (unit_by tables.now code).class
letter_named (Codes tables) code = letter_by tables.now code

-- the lines of a text: the pieces between line feeds
abbrev pub text_lines : List ℕ → List (List ℕ)
text_lines text = cut_at 10 text

-- the lines that have a character
abbrev pub row_lines : List ℕ → List (List ℕ)
row_lines text = filter has_some (text_lines text)

-- the cases of a line under each of these directions
abbrev pub cases_of_line : Naming → List Direction → List ℕ → List Case
cases_of_line naming directions line = under_each directions (map (letter_named naming) line)

-- the cases of all lines of a text that have a character, in their order
abbrev pub cases_of_text : Naming → List Direction → List ℕ → List Case
cases_of_text naming directions text = flat_map (cases_of_line naming directions) (row_lines text)

-- a line is longer than any row
abbrev pub is_long : List ℕ → Bool
is_long line = nat_lt longest_row (length line)

-- the number of the first line of a text that is too long for a row, from 1
abbrev pub first_long_line : List ℕ → Option ℕ
first_long_line text = position_from is_long 1 (text_lines text)

-- The letters of the texts of rows: only classes, or characters with their units from tables.
use Rattle.std.specs.Prelude.{◌≡◌, ℕ, List, map}
use Rattle.std.specs.Char.{IsScalar}
use Rattle.units.specs.ClassNames.{short_name}
use Rattle.units.specs.declared.bracket.Unit.{Unit as BidiUnit}
use Rattle.units.specs.declared.class.Class.TheVariants.{L}
use Rattle.ucdfiles.specs.Tables.{TablesOf, unit_by}
use Rattle.printing.specs.LevelsText.{code_text}
use Rattle.bidtests.specs.ClassesFile.{unit_of_class}
use Rattle.bidtests.specs.declared.kind.Kind.{Kind}
use Rattle.bidtests.specs.declared.kind.Kind.TheVariants.{Classes, Characters}
use Rattle.rows.specs.declared.letter.Letter.{Letter}
use Rattle.rows.specs.declared.letter.Letter.TheVariants as letter

-- the letter at an index that is out of range
abbrev pub no_letter : Letter
no_letter = letter.Class L

-- a character with its unit from the tables
abbrev pub letter_by : TablesOf → ℕ → Letter
letter_by tables code = letter.Character code (unit_by tables code)

-- the unit of a letter
abbrev pub unit_of : Letter → BidiUnit
unit_of (letter.Class class) = unit_of_class class
unit_of (letter.Character code unit) = unit

-- the units of a text
abbrev pub units_of : List Letter → List BidiUnit
units_of text = map unit_of text

-- how a row names a letter: by the short name of its class, or by its code point in hex digits
abbrev pub letter_name : Letter → List ℕ
letter_name (letter.Class class) = short_name class
letter_name (letter.Character code unit) = code_text code

-- the letter is only a class
abbrev pub IsClass : Letter → Type 0
IsClass (letter.Class class) = Unit {0}
IsClass (letter.Character code unit) = ⊥

-- the letter is a character with its unit from these tables
abbrev pub IsCharacterBy : TablesOf → Letter → Type 0
IsCharacterBy tables (letter.Class class) = ⊥
IsCharacterBy tables (letter.Character code unit) = IsScalar code × (unit ≡ unit_by tables code)

-- the letter can be in a row of this kind: a class in a file of classes, or a character with its unit from the file's
-- tables in a file of characters
abbrev pub IsLetterOf : Kind → Letter → Type 0
IsLetterOf Classes l = IsClass l
IsLetterOf (Characters tables) l = IsCharacterBy tables.now l

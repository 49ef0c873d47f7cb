-- What is printed of a text as rows: a conformance file of its lines, with right results.
use Rattle.std.specs.Prelude.{◌≡◌, ℕ, List, Option, None}
use Rattle.std.specs.Borrow.{Bor}
use Rattle.std.specs.Io.KnownBytes.{Appends}
use Rattle.units.specs.Limits.{standard}
use Rattle.units.specs.declared.level.Direction.{Direction}
use Rattle.ucdfiles.specs.Tables.{TablesOf}
use Rattle.rows.specs.Judged.{JudgeSaysYes}
use Rattle.rows.specs.RowTexts.{cases_text}
use Rattle.rows.specs.TextLines.{cases_of_text, first_long_line, kind_of}
use Rattle.rows.specs.declared.naming.Naming.{Naming}
use Rattle.rows.specs.declared.naming.Naming.TheVariants as naming
use Rattle.requests.specs.DirectionWords.{SaysDirections}
use Rattle.requests.specs.Printed.{HoldsText}
use Rattle.requests.specs.ReadFiles.{FileFacts}
use Rattle.requests.specs.TableSources.{AreTablesBy}
use Rattle.requests.specs.declared.request.AskedLines.{AskedLines}
use Rattle.requests.specs.declared.request.FileKind.{FileKind}
use Rattle.requests.specs.declared.request.FileKind.TheVariants.{Classes, Characters}

-- how the rows of a file of this kind name characters, with these tables
abbrev pub naming_in : FileKind → Bor TablesOf → Naming
naming_in Classes tables = naming.Classes tables
naming_in Characters tables = naming.Codes tables

-- no line of this text is too long for a row, and the known output grew by the file of its lines that have a character,
-- under these directions, with the standard limits; the judge's verdict on that file is a yes
pub record HasPrintedTextRows (naming : Naming) (directions : List Direction) (text : List ℕ)
    (before after : Option (List ℕ)) : Type 0 where
  pub short : first_long_line text ≡ None
  pub noted : Appends before after (cases_text standard (kind_of naming) (cases_of_text naming directions text))
  pub right : JudgeSaysYes standard (kind_of naming) (cases_of_text naming directions text)

-- the lines of the text of FILE were printed as rows, with the kind, the tables and the directions of the request
pub record HasPrintedLines (files : FileFacts) (asked : AskedLines) (before after : Option (List ℕ)) : Type 0 where
  pub directions : List Direction
  pub named : SaysDirections asked.directions.now directions
  pub tables : Bor TablesOf
  pub stated : AreTablesBy files asked.tables tables.now
  pub text : List ℕ
  pub read : HoldsText files asked.file.now text
  pub made : HasPrintedTextRows (naming_in asked.kind tables) directions text before after

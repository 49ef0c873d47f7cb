-- The kinds of the rows of conformance files.
use Rattle.std.specs.Prelude.{◌≡◌, Option, None, Some}
use Rattle.std.specs.Borrow.{Bor}
use Rattle.ucdfiles.specs.Tables.{TablesOf}
use Rattle.bidtests.specs.declared.kind.Kind.{Kind}
use Rattle.bidtests.specs.declared.kind.Kind.TheVariants as rows_of
use Rattle.requests.specs.ReadFiles.{FileFacts}
use Rattle.requests.specs.TableSources.{AreTablesBy}
use Rattle.requests.specs.declared.request.FileKind.{FileKind}
use Rattle.requests.specs.declared.request.FileKind.TheVariants.{Classes, Characters}
use Rattle.requests.specs.declared.request.TableSource.{TableSource}

-- the kind of a file of such rows
abbrev pub kind_of : Kind → FileKind
kind_of rows_of.Classes = Classes
kind_of (rows_of.Characters tables) = Characters

-- these are the tables of this source if the rows of a file of this kind need tables
abbrev pub HasRowTables : FileFacts → FileKind → Option TableSource → Option TablesOf → Type 0
HasRowTables files Classes source tables = tables ≡ None
HasRowTables files Characters (Some source) tables = (taken : TablesOf) × AreTablesBy files source taken ×
    (tables ≡ Some taken)
HasRowTables files Characters None tables = ⊥

-- this is the kind of rows with these tables: classes if there are none
abbrev pub AreRowsBy : Option TablesOf → Kind → Type 0
AreRowsBy None rows = rows ≡ rows_of.Classes
AreRowsBy (Some tables) rows = (borrowed : Bor TablesOf) × (borrowed.now ≡ tables) ×
    (rows ≡ rows_of.Characters borrowed)

-- the kind of the rows of a file of this kind: classes, or characters with the tables of this source
abbrev pub IsKindOfFile : FileFacts → FileKind → Option TableSource → Kind → Type 0
IsKindOfFile files Classes source rows = rows ≡ rows_of.Classes
IsKindOfFile files Characters (Some source) rows =
    (tables : Bor TablesOf) × AreTablesBy files source tables.now × (rows ≡ rows_of.Characters tables)
IsKindOfFile files Characters None rows = ⊥

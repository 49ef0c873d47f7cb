-- The tables of a request: those of a folder, or the built-in ones.
use Rattle.standard.specs.declared.facts.TheConstants.{BRACKETS, CLASSES, MIRRORS}
use Rattle.ucdfiles.specs.Files.{StateTables}
use Rattle.ucdfiles.specs.Tables.{TablesOf}
use Rattle.requests.specs.ReadFiles.{FileFacts, AreTables}
use Rattle.requests.specs.declared.request.TableSource.{TableSource}
use Rattle.requests.specs.declared.request.TableSource.TheVariants.{Folder, BuiltIn}

-- the tables state the built-in facts
unfoldable pub AreBuiltIn : TablesOf → Type 0
AreBuiltIn tables = StateTables CLASSES BRACKETS MIRRORS tables

-- the tables are those of this source
abbrev pub AreTablesBy : FileFacts → TableSource → TablesOf → Type 0
AreTablesBy files (Folder folder) tables = AreTables files folder.now tables
AreTablesBy files BuiltIn tables = AreBuiltIn tables

-- The fault of the first part that fails if parts are joined, and what ends a part.
use Rattle.std.proofs.Common.{◌≡◌, ℕ, List, [], ◌∷◌, ◌++◌, ◌≤◌, length, Option, None, Some, Result, Ok, Err, IfErr, IsErrAnd, inl, inr, subst, sym}
use Rattle.std.specs.Str.{chars}
use Rattle.units.specs.Text.{lines_of}
use Rattle.units.specs.declared.level.Direction.{Direction}
use Rattle.ucdfiles.specs.ClassFile.{class_fault, class_file_fault}
use Rattle.ucdfiles.specs.Faults.{first_fault}
use Rattle.ucdfiles.specs.PairFiles.{bracket_fault, bracket_file_fault, mirror_fault, mirror_file_fault}
use Rattle.ucdfiles.specs.Tables.{TablesOf}
use Rattle.bidtests.specs.declared.kind.Kind.{Kind}
use Rattle.rows.specs.TextLines.{first_long_line}
use Rattle.requests.specs.FileRows.{AreRowsBy, HasRowTables, IsKindOfFile}
use Rattle.requests.specs.ReadFiles.{AreTables, FileFacts, most_file_bytes, origin_of}
use Rattle.requests.specs.TableSources.{AreTablesBy}
use Rattle.requests.specs.FaultText.{print_fault}
use Rattle.requests.specs.Outcomes.{IsDone}
use Rattle.requests.specs.ItemWords.{codes_named}
use Rattle.requests.specs.Printed.{HoldsText, most_text_bytes}
use Rattle.requests.specs.Parts.{AreDone, EndsWriting, FailsIn, FailsOver, IsFirstFault, RequestPart, all_parts_of, alphabet_parts, codes_parts, explaining_parts, file_part, lines_part, lines_parts, opening_part, printing_parts, row_parts, row_table_parts, row_text_parts, rows_parts, row_search_part, source_parts, table_parts, text_parts, texts_part, whole_parts}
use Rattle.requests.specs.DirectionWords.{SaysDirections}
use Rattle.requests.specs.RowsPrinted.{HasPrintedRows}
use Rattle.requests.proofs.AskedLetters.{alphabet_done}
use Rattle.requests.specs.declared.request.FileKind.{FileKind}
use Rattle.requests.specs.declared.request.FileKind.TheVariants.{Classes, Characters}
use Rattle.requests.specs.declared.request.TableSource.{TableSource}
use Rattle.requests.specs.declared.request.TableSource.TheVariants.{Folder, BuiltIn}
use Rattle.requests.specs.declared.request.Request.{Request}
use Rattle.requests.specs.declared.request.Request.TheVariants.{Text, ExplainClasses, ExplainCodes, ExplainRow, Judge, Report, Rows, RowsOf}
use Rattle.requests.specs.declared.request.AskedLines.{AskedLines}
use Rattle.requests.specs.declared.request.AskedRows.{AskedRows}
use Rattle.requests.specs.declared.request.WantedRow.{WantedRow}
use Rattle.requests.specs.declared.fault.Fault.{Fault}
use Rattle.printing.specs.declared.fault.PrintFault.{PrintFault}
use Rattle.printing.specs.declared.fault.PrintFault.TheVariants.{Write, Memory}
use Rattle.requests.specs.declared.outcome.Outcome.{Outcome}
use Rattle.requests.specs.declared.outcome.Outcome.TheVariants.{Judged, Printed}

-- a fault that is returned unchanged
pub passed_on : (Ends : Fault → Type 0) {T : Type 0} (r : Result T Fault) (e : Fault) →
    IsErrAnd r (λ given. given ≡ e) → Ends e → IfErr r Ends
passed_on Ends (Ok x) e same h = tt
passed_on Ends (Err given) e same h = subst Ends (sym same) h

pub first_of_all : (xs ys : List RequestPart) (fault : Fault) → IsFirstFault xs fault → IsFirstFault (xs ++ ys) fault
first_of_all [] ys fault h = absurd h
first_of_all (x ∷ xs) ys fault (inl here) = inl here
first_of_all (x ∷ xs) ys fault (inr later) = inr (later.0, first_of_all xs ys fault later.1)

pub first_fault_after : (xs ys : List RequestPart) (fault : Fault) → AreDone xs → IsFirstFault ys fault →
    IsFirstFault (xs ++ ys) fault
first_fault_after [] ys fault done h = h
first_fault_after (x ∷ xs) ys fault done h = inr (done.0, first_fault_after xs ys fault done.1 h)

pub all_done : (xs ys : List RequestPart) → AreDone xs → AreDone ys → AreDone (xs ++ ys)
all_done [] ys done rest = rest
all_done (x ∷ xs) ys done rest = (done.0, all_done xs ys done.1 rest)

-- what ends the parts after completed ones ends all
pub FailsOver-following : (xs first all : List RequestPart) (before after : Option (List ℕ)) (fault : Fault) →
    AreDone xs → FailsOver first all before after fault
    → FailsOver (xs ++ first) (xs ++ all) before after fault
FailsOver-following xs first all before after fault done (inl h) = inl (first_fault_after xs first fault done h.0, h.1)
FailsOver-following xs first all before after fault done (inr h) = inr (all_done xs all done h.0, h.1)

pub FailsIn-following : (xs ys : List RequestPart) (before after : Option (List ℕ)) (fault : Fault) → AreDone xs →
    FailsIn ys before after fault
    → FailsIn (xs ++ ys) before after fault
FailsIn-following xs ys before after fault done h = FailsOver-following xs ys ys before after fault done h

-- the tables that were read have no fault
pub class_faultless : (bytes : List ℕ) → class_file_fault bytes ≡ None →
    first_fault class_fault [] (lines_of bytes) ≡ None
unfolding class_file_fault
class_faultless bytes h = h

pub bracket_faultless : (bytes : List ℕ) → bracket_file_fault bytes ≡ None →
    first_fault bracket_fault [] (lines_of bytes) ≡ None
unfolding bracket_file_fault
bracket_faultless bytes h = h

pub mirror_faultless : (bytes : List ℕ) → mirror_file_fault bytes ≡ None →
    first_fault mirror_fault [] (lines_of bytes) ≡ None
unfolding mirror_file_fault
mirror_faultless bytes h = h

pub tables_done : (files : FileFacts) (folder : List ℕ) (tables : TablesOf) → AreTables files folder tables →
    AreDone (table_parts files folder)
tables_done files folder tables h = (
  (h.class_path, h.class_path_given, (h.class_bytes, h.class_file, class_faultless h.class_bytes h.classes.faultless)),
  (
    (h.bracket_bytes, h.bracket_file, bracket_faultless h.bracket_bytes h.brackets.faultless),
    ((h.mirror_bytes, h.mirror_file, mirror_faultless h.mirror_bytes h.mirrors.faultless), tt),
  ),
)

-- the tables that rows need, and the kind of the rows with these
pub has_rows : (files : FileFacts) (kind : FileKind) (source : Option TableSource) (tables : Option TablesOf)
    (rows : Kind)
    → HasRowTables files kind source tables → AreRowsBy tables rows → IsKindOfFile files kind source rows
has_rows files Classes source tables rows h by = subst (λ (t : Option TablesOf). AreRowsBy t rows) h by
has_rows files Characters (Some source) tables rows h by =
    let is = subst (λ (t : Option TablesOf). AreRowsBy t rows) h.2 by in
    (is.0, subst (AreTablesBy files source) (sym is.1) h.1, is.2)
has_rows files Characters None tables rows h by = absurd h

pub source_done : (files : FileFacts) (source : TableSource) (tables : TablesOf) → AreTablesBy files source tables →
    AreDone (source_parts files source)
source_done files (Folder folder) tables h = tables_done files folder.now tables h
source_done files BuiltIn tables h = tt

pub row_tables_done : (files : FileFacts) (kind : FileKind) (source : Option TableSource) (rows : Kind) →
    IsKindOfFile files kind source rows
    → AreDone (row_table_parts files kind source)
row_tables_done files Classes source rows is = tt
row_tables_done files Characters (Some source) rows is = source_done files source is.0.now is.1
row_tables_done files Characters None rows is = absurd is

-- all parts of the reading of a text are done if the text was read whole
pub text_done : (files : FileFacts) (file text : List ℕ) → HoldsText files file text → AreDone (text_parts files file)
text_done files file text h = ((h.bytes, h.read), ((h.bytes, h.read, h.utf8), tt))

pub whole_done : (files : FileFacts) (source : TableSource) (file : List ℕ) (tables : TablesOf) →
    AreTablesBy files source tables
    → (text : List ℕ) → HoldsText files file text → AreDone (whole_parts files source file)
unfolding whole_parts
whole_done files source file tables h text read =
    all_done (source_parts files source) (text_parts files file) (source_done files source tables h)
    (text_done files file text read)

-- all parts before the first byte are done for a text that is printed while it is read
pub begun_done : (files : FileFacts) (source : TableSource) (file : List ℕ) (tables : TablesOf) →
    AreTablesBy files source tables
    → (bytes : List ℕ) → files.Begins (origin_of file) most_text_bytes bytes →
    AreDone (printing_parts files source file)
unfolding printing_parts
begun_done files source file tables h bytes begins =
    all_done (source_parts files source) (opening_part files most_text_bytes file ∷ [])
    (source_done files source tables h) ((bytes, begins), tt)

-- all parts of the explanation of code points are done
pub codes_done : (files : FileFacts) (word : List ℕ) (source : TableSource) (tables : TablesOf) →
    AreTablesBy files source tables
    → length word ≤ most_text_bytes → (chars : List ℕ) → codes_named word ≡ Some chars →
    AreDone (explaining_parts files word source)
unfolding explaining_parts
codes_done files word source tables h short chars noted =
    all_done (codes_parts word) (source_parts files source) (
      short,
      ((chars, noted), tt),
    ) (source_done files source tables h)

pub writing_ends : (f : PrintFault) → EndsWriting (print_fault f)
writing_ends Write = tt
writing_ends Memory = tt

-- if everything was read, a fault of printing is a fault of writing
pub writing_fails : {A : Type 0} (first all : List RequestPart) (before after : Option (List ℕ)) (r : Result A Fault)
    (f : PrintFault) → AreDone all
    → IsErrAnd r (λ fault. fault ≡ print_fault f) → IfErr r (FailsOver first all before after)
writing_fails first all before after (Ok x) f done h = tt
writing_fails first all before after (Err fault) f done h = inr (done, subst EndsWriting (sym h) (writing_ends f))

pub printing_fails : {A : Type 0} (parts : List RequestPart) (before after : Option (List ℕ)) (r : Result A Fault)
    (f : PrintFault) → AreDone parts
    → IsErrAnd r (λ fault. fault ≡ print_fault f) → IfErr r (FailsIn parts before after)
printing_fails parts before after r f done h = writing_fails parts parts before after r f done h

-- all parts of rows that were printed are done
rows_done : (files : FileFacts) (asked : AskedRows) (before after : Option (List ℕ)) →
    HasPrintedRows files asked before after → AreDone (rows_parts files asked)
unfolding rows_parts
rows_done files asked before after h = (
  ((h.texts.least, h.texts.greatest), h.are.ends),
  (
    (h.directions, h.named),
    all_done (alphabet_parts asked.kind asked.letters) (row_table_parts files asked.kind (Some asked.tables) ++
        texts_part files asked ∷ [])
        (alphabet_done files asked.kind asked.tables h.kind asked.letters h.texts.alphabet h.is h.are.letters)
        (all_done (row_table_parts files asked.kind (Some asked.tables)) (texts_part files asked ∷ [])
        (row_tables_done files asked.kind (Some asked.tables) h.kind h.is) (
          (h.kind, h.is, h.texts, h.are, h.made.some),
          tt,
        )),
  ),
)

-- all parts of the printing of a text's lines are done
pub lines_done : (files : FileFacts) (asked : AskedLines) (directions : List Direction) →
    SaysDirections asked.directions.now directions
    → (tables : TablesOf) → AreTablesBy files asked.tables tables
    → (text : List ℕ) → HoldsText files asked.file.now text → first_long_line text ≡ None →
    AreDone (lines_parts files asked)
unfolding lines_parts
lines_done files asked directions says tables h text read short = (
  (directions, says),
  all_done (source_parts files asked.tables) (row_text_parts files asked.file.now)
      (source_done files asked.tables tables h)
      (all_done (text_parts files asked.file.now) (lines_part files asked.file.now ∷ [])
      (text_done files asked.file.now text read) ((text, read, short), tt)),
)

-- if the search returned the row, all parts for it are done
pub row_done : (files : FileFacts) (wanted : WantedRow) (rows : Kind) →
    IsKindOfFile files wanted.kind wanted.tables rows → (row_search_part files wanted).Done
    → AreDone (row_parts files wanted)
row_done files wanted rows is found =
    all_done (row_table_parts files wanted.kind wanted.tables) (row_search_part files wanted ∷ [])
    (row_tables_done files wanted.kind wanted.tables rows is) (found, tt)

-- all parts of a completed request are done
pub request_done : (files : FileFacts) (before after : Option (List ℕ)) (request : Request) (outcome : Outcome)
    → IsDone files before after request outcome → AreDone (all_parts_of files request)
request_done files before after (Text source direction file print) Printed h =
    whole_done files source file.now h.tables h.stated h.text h.read
request_done files before after (ExplainClasses word direction) Printed h = (h.short, ((h.classes, h.named), tt))
request_done files before after (ExplainCodes word source direction) Printed h =
    codes_done files word.now source h.tables h.stated h.short h.chars h.chars_named
request_done files before after (ExplainRow wanted) Printed h =
    row_done files wanted h.rows h.is (h.rows, h.is, (h.row, h.found))
request_done files before after (Judge Classes tables file) (Judged status) h = ((h.bytes, h.read), tt)
request_done files before after (Judge Characters (Some source) file) (Judged status) h =
    all_done (source_parts files source) (file_part files most_file_bytes file.now ∷ [])
    (source_done files source h.is.0 h.is.1) ((h.bytes, h.read), tt)
request_done files before after (Report kind source file options) (Judged status) h =
    all_done (row_table_parts files kind source) (file_part files most_file_bytes file.now ∷ [])
    (row_tables_done files kind source h.0 h.1) ((h.2.bytes, h.2.read), tt)
request_done files before after (Rows asked) Printed h = rows_done files asked before after h
request_done files before after (RowsOf asked) Printed h =
    lines_done files asked h.directions h.named h.tables.now h.stated h.text h.read h.made.short
request_done files before after (Text source direction file print) (Judged status) h = absurd h
request_done files before after (ExplainClasses word direction) (Judged status) h = absurd h
request_done files before after (ExplainCodes word source direction) (Judged status) h = absurd h
request_done files before after (ExplainRow wanted) (Judged status) h = absurd h
request_done files before after (Judge Classes tables file) Printed h = absurd h
request_done files before after (Judge Characters (Some source) file) Printed h = absurd h
request_done files before after (Judge Characters None file) (Judged status) h = absurd h
request_done files before after (Judge Characters None file) Printed h = absurd h
request_done files before after (Report kind source file options) Printed h = absurd h
request_done files before after (Rows asked) (Judged status) h = absurd h
request_done files before after (RowsOf asked) (Judged status) h = absurd h

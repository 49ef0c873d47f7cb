-- How the command line is read: the command with its subcommands and arguments, and the request that the values of a
-- subcommand make.
use Rattle.std.specs.Prelude.{◌≡◌, ◌≢◌, ◌⊎◌, ℕ, List, [], ◌∷◌, ◌++◌, Option, None, Some, Result, Ok, Err, IfOk, codes, fold, map, option_map, unwrap_or, is_some, pos, true, false, if◌then◌else◌}
use Rattle.std.specs.Borrow.{Bor}
use Rattle.std.specs.declared.num.NonZeroU16.{NonZeroU16}
use Rattle.std.specs.declared.num.NonZeroU64.{NonZeroU64}
use Rattle.std.specs.declared.num.ParseIntError.{ParseIntError}
use Rattle.std.specs.Str.{bytes_eq}
use Rattle.std.specs.Str.Parse.{ParsesNonZeroUnsigned, ParsesUnsigned, digits_value, without_leading_plus}
use Rattle.clap.specs.Faults.{fault_of}
use Rattle.clap.specs.Kinds.{IsAmong}
use Rattle.clap.specs.Matches.{ReadsOne}
use Rattle.clap.specs.Simple.{App, new_app, new_rule, on_top, subcommand_of, with_subcommand}
use Rattle.clap.specs.Values.{kind_of}
use Rattle.clap.specs.Walk.{Row, Rule, Text, first_of, one_of}
use Rattle.clap.specs.declared.error.Error.{Error}
use Rattle.clap.specs.declared.error.kind.ErrorKind.TheVariants.{OutOfMemory}
use Rattle.clap.specs.declared.builder.value_parser.ValueParser.TheVariants as parser
use Rattle.clap.specs.declared.builder.action.ArgAction.TheVariants.{SetTrue}
use Rattle.report.specs.declared.terms.Leniency.{Leniency}
use Rattle.report.specs.declared.terms.Parts.TheVariants as parts
use Rattle.report.specs.declared.terms.Positions.TheVariants as positions
use Rattle.rows.specs.declared.form.Form.{Form}
use Rattle.rows.specs.declared.form.Form.TheVariants.{Nest, Brackets, Marks, Numbers, Isolates, Separators}
use Rattle.units.specs.declared.level.Direction.{Direction}
use Rattle.units.specs.declared.level.Direction.TheVariants.{Auto, Ltr, Rtl, AutoRtl}
use Rattle.bidtests.specs.VerdictText.{direction_word}
use Rattle.command.specs.Rejections.{has_form_words, has_row_words, has_table_words, has_text_words, has_two_tables, is_given, is_over_alphabet, rejection_without_request}
use Rattle.command.specs.declared.invocation.Invocation.{Invocation}
use Rattle.command.specs.declared.rejection.NoRequest.{NoRequest}
use Rattle.command.specs.declared.rejection.WordsFault.{WordsFault}
use Rattle.command.specs.declared.rejection.WordsFault.TheVariants as fault
use Rattle.requests.specs.declared.fault.Detail.{Detail}
use Rattle.requests.specs.declared.fault.Detail.TheVariants.{Brief, Verbose}
use Rattle.requests.specs.declared.request.AskedLines.{AskedLines}
use Rattle.requests.specs.declared.request.AskedRows.{AskedRows}
use Rattle.requests.specs.declared.request.FileKind.{FileKind}
use Rattle.requests.specs.declared.request.FileKind.TheVariants.{Classes, Characters}
use Rattle.requests.specs.declared.request.Print.{Print}
use Rattle.requests.specs.declared.request.Print.TheVariants.{Levels, Reorder, Explained}
use Rattle.requests.specs.declared.request.TableSource.{TableSource}
use Rattle.requests.specs.declared.request.TableSource.TheVariants.{Folder, BuiltIn}
use Rattle.requests.specs.declared.request.RowLetters.{RowLetters}
use Rattle.requests.specs.declared.request.RowLetters.TheVariants.{Alphabet, OfForm}
use Rattle.requests.specs.declared.request.RowsForm.{RowsForm}
use Rattle.requests.specs.declared.request.WantedRow.{WantedRow}
use Rattle.requests.specs.declared.request.RowsForm.TheVariants.{Exhaustive, Random}
use Rattle.requests.specs.declared.request.Request.{Request}
use Rattle.requests.specs.declared.request.Request.TheVariants as requested

-- the words that a value may be
abbrev pub Choice : Type 0
Choice = Bor (List (Bor Text))

abbrev pub words_of : Choice → List Text
words_of choice = map (λ word. word.now) choice.now

-- the names of directions, kinds and forms
abbrev pub direction_words : List Text
direction_words = codes "auto" ∷ codes "ltr" ∷ codes "rtl" ∷ codes "auto-rtl" ∷ []

abbrev pub kind_words : List Text
kind_words = codes "classes" ∷ codes "characters" ∷ []

abbrev pub form_words : List Text
form_words = codes "exhaustive" ∷ codes "random" ∷ codes "nest" ∷ codes "brackets" ∷ codes "marks" ∷ codes "numbers"
    ∷ codes "isolates" ∷ codes "separators" ∷ []

-- an option with a value, `--NAME VALUE`
abbrev pub option_rule : Text → Rule
option_rule name = record (new_rule name) { long = Some name; value_names = 1 }

-- an option whose value is one of these words
abbrev pub choice_rule : Text → Choice → Rule
choice_rule name words = record (option_rule name) { parser = Some (parser.Names words) }

-- FILE
abbrev pub file_rule : Rule
file_rule = record (new_rule (codes "file")) { value_names = 1; required = true }

-- --tables DIR, which is not empty
abbrev pub tables_rule : Rule
tables_rule = record (option_rule (codes "tables")) { parser = Some parser.NonEmptyString }

-- --direction, with the default `auto`
abbrev pub direction_rule : Choice → Rule
direction_rule directions = record (choice_rule (codes "direction") directions) { defaults = codes "auto" ∷ [] }

-- --row, 1 or more, of 64 bits
abbrev pub row_rule : Rule
row_rule = record (option_rule (codes "row")) { parser = Some (parser.Unsigned 1 18446744073709551615) }

-- --columns, 1 to 65,535
abbrev pub columns_rule : Rule
columns_rule = record (option_rule (codes "columns")) { parser = Some (parser.Signed (pos 1) (pos 65535)) }

-- --kind, which is required
abbrev pub kind_rule : Choice → Rule
kind_rule kinds = record (choice_rule (codes "kind") kinds) { required = true }

-- --directions, with the default `auto ltr rtl`
abbrev pub directions_rule : Rule
directions_rule = record (option_rule (codes "directions")) { defaults = codes "auto ltr rtl" ∷ [] }

-- --most, --seed and --count, numbers of 64 bits
abbrev pub number_rule : Text → Rule
number_rule name = record (option_rule name) { parser = Some (parser.Unsigned 0 18446744073709551615) }

-- --order and --shown, flags, which take no value
abbrev pub flag_rule : Text → Rule
flag_rule name = record (new_rule name) { long = Some name; action = Some SetTrue }

-- --built-in, a flag
abbrev pub built_in_rule : Rule
built_in_rule = flag_rule (codes "built-in")

-- --verbose, a flag, also -v (118)
abbrev pub verbose_rule : Rule
verbose_rule = record (flag_rule (codes "verbose")) { short = Some 118 }

-- a command of this name with these arguments, and with --verbose
abbrev pub app_with : Text → List Rule → App
app_with name rules = on_top (λ s. record s { rules = rules ++ verbose_rule ∷ [] }) (new_app name)

abbrev pub levels_app : Choice → App
levels_app directions = app_with (codes "levels") (tables_rule ∷ direction_rule directions ∷ file_rule ∷ [])

abbrev pub reorder_app : Choice → App
reorder_app directions =
    app_with (codes "reorder") (tables_rule ∷ direction_rule directions ∷ columns_rule ∷ file_rule ∷ [])

abbrev pub explain_app : Choice → Choice → App
explain_app kinds directions = app_with (codes "explain") (tables_rule ∷ built_in_rule ∷ option_rule (codes "classes")
    ∷ option_rule (codes "codes") ∷ row_rule ∷ choice_rule (codes "kind") kinds ∷
    choice_rule (codes "direction") directions ∷ record file_rule { required = false } ∷ [])

abbrev pub judge_app : Choice → App
judge_app kinds = app_with (codes "judge") (kind_rule kinds ∷ tables_rule ∷ built_in_rule ∷ file_rule ∷ [])

abbrev pub report_app : Choice → App
report_app kinds = app_with (codes "report") (kind_rule kinds ∷ tables_rule ∷ built_in_rule ∷ number_rule (codes "most")
    ∷ flag_rule (codes "order") ∷ flag_rule (codes "shown") ∷ file_rule ∷ [])

abbrev pub rows_app : Choice → Choice → App
rows_app forms kinds =
    app_with (codes "rows") (choice_rule (codes "form") forms ∷ choice_rule (codes "kind") kinds ∷ tables_rule
    ∷ built_in_rule ∷ option_rule (codes "alphabet") ∷ option_rule (codes "length") ∷ directions_rule ∷
    number_rule (codes "seed")
    ∷ number_rule (codes "count") ∷ option_rule (codes "of") ∷ [])

-- the command without its subcommands: one is required, except for help and the version
abbrev pub bidi_top : App
bidi_top = on_top (λ s. record s { has_version = true; subcommand_required = true }) (new_app (codes "bidi"))

-- the choices of directions, of kinds and of forms
pub record Choices : Type 0 where
  pub directions : Choice
  pub kinds : Choice
  pub forms : Choice

-- the command; its six subcommands have these choices
abbrev pub bidi_app : Choices → App
bidi_app c = fold with_subcommand bidi_top ((levels_app c.directions).top ∷ (reorder_app c.directions).top ∷
    (explain_app c.kinds c.directions).top
    ∷ (judge_app c.kinds).top ∷ (report_app c.kinds).top ∷ (rows_app c.forms c.kinds).top ∷ [])

-- the command line of `bidi`
pub record IsBidi (app : App) : Type 0 where
  pub choices : Choices
  pub directions : words_of choices.directions ≡ direction_words
  pub kinds : words_of choices.kinds ≡ kind_words
  pub forms : words_of choices.forms ≡ form_words
  pub is : app ≡ bidi_app choices

-- the name of a kind of file
abbrev pub kind_word : FileKind → Text
kind_word Classes = codes "classes"
kind_word Characters = codes "characters"

-- the direction with this name: left to right, right to left, auto with right to left, and otherwise auto
abbrev pub direction_named : Option Text → Direction
direction_named None = Auto
direction_named (Some word) =
    if bytes_eq word (direction_word Ltr) then Ltr
    else (if bytes_eq word (direction_word Rtl) then Rtl else
    (if bytes_eq word (direction_word AutoRtl) then AutoRtl else Auto))

-- the kind of file with this name
abbrev pub kind_named : Option Text → Option FileKind
kind_named None = None
kind_named (Some word) =
    if bytes_eq word (kind_word Classes) then Some Classes else
    (if bytes_eq word (kind_word Characters) then Some Characters else None)

-- the number of columns from its text
abbrev pub ReadsColumns : Text → Result NonZeroU16 ParseIntError → Type 0
ReadsColumns text r = IfOk r (λ n. n.value ≡ digits_value 10 (without_leading_plus text)) ×
    ParsesNonZeroUnsigned 16 text r

-- the columns from the text of their number if it is given
abbrev pub ColumnsAre : Option Text → Option NonZeroU16 → Type 0
ColumnsAre None columns = columns ≡ None
ColumnsAre (Some text) columns = ReadsOne ReadsColumns text columns

-- the line from its text
abbrev pub ReadsLine : Text → Result NonZeroU64 ParseIntError → Type 0
ReadsLine text r = IfOk r (λ n. n.value ≡ digits_value 10 (without_leading_plus text)) × ParsesNonZeroUnsigned 64 text r

-- the line from its text if it is given, and otherwise the first
abbrev pub LineIs : Option Text → NonZeroU64 → Type 0
LineIs None line = line.value ≡ 1
LineIs (Some text) line =
    (read : Option NonZeroU64) × ReadsOne ReadsLine text read ×
    (line.value ≡ unwrap_or (option_map (λ n. n.value) read) 1)

-- the number from its text
abbrev pub ReadsNumber : Text → Result ℕ ParseIntError → Type 0
ReadsNumber text r = ParsesUnsigned 64 10 text r

-- the number from its text if it is given, and otherwise this one
abbrev pub NumberIs : ℕ → Option Text → ℕ → Type 0
NumberIs default None n = n ≡ default
NumberIs default (Some text) n = (read : Option ℕ) × ReadsOne ReadsNumber text read × (n ≡ unwrap_or read default)

-- the detail in which a fault is reported: with the reason if --verbose is given
abbrev pub detail_in : List Row → Detail
detail_in rows = if is_given (first_of (codes "verbose") rows) then Verbose else Brief

-- which expected results a report compares: only the order with --order, only what is shown with --shown
abbrev pub leniency_in : List Row → Leniency
leniency_in rows = record {
  parts = if is_given (first_of (codes "order") rows) then parts.OrderAlone else parts.All;
  positions = if is_given (first_of (codes "shown") rows) then positions.Shown else positions.All;
}

-- the folder of the tables, if they are those of a folder
abbrev pub folder_of : TableSource → Option Text
folder_of (Folder folder) = Some folder.now
folder_of BuiltIn = None

-- the tables of a file of rows: those of a folder with --tables, the built-in ones with --built-in; both can't be given
abbrev pub NamesTables : List Row → Option TableSource → Type 0
NamesTables rows None = (first_of (codes "tables") rows ≡ None) × (is_given (first_of (codes "built-in") rows) ≡ false)
NamesTables rows (Some (Folder folder)) =
    (first_of (codes "tables") rows ≡ Some folder.now) × (is_given (first_of (codes "built-in") rows) ≡ false)
NamesTables rows (Some BuiltIn) = (first_of (codes "tables") rows ≡ None) ×
    (is_given (first_of (codes "built-in") rows) ≡ true)

-- the tables of texts; the default is the built-in ones
abbrev pub TakesTables : List Row → TableSource → Type 0
TakesTables rows source = (first_of (codes "tables") rows ≡ folder_of source) × (has_two_tables rows ≡ false)

-- the form of rows: all texts or, with another name of a form, 1,000 drawn texts, or as many as are requested, with the
-- seed 0 or the given one
abbrev pub FormIs : List Row → RowsForm → Type 0
FormIs rows Exhaustive = first_of (codes "form") rows ≡ Some (codes "exhaustive")
FormIs rows (Random seed count) = (first_of (codes "form") rows ≢ Some (codes "exhaustive"))
    × NumberIs 0 (one_of (codes "seed") rows) seed × NumberIs 1000 (one_of (codes "count") rows) count

-- the name of a form of hard texts
abbrev pub form_word : Form → Text
form_word Nest = codes "nest"
form_word Brackets = codes "brackets"
form_word Marks = codes "marks"
form_word Numbers = codes "numbers"
form_word Isolates = codes "isolates"
form_word Separators = codes "separators"

-- the letters of rows: an alphabet for a form that takes one, and otherwise those of the form
abbrev pub LettersAre : List Row → RowLetters → Type 0
LettersAre rows (Alphabet word) = (is_over_alphabet (first_of (codes "form") rows) ≡ true) ×
    (first_of (codes "alphabet") rows ≡ Some word.now)
LettersAre rows (OfForm form) = (first_of (codes "form") rows ≡ Some (form_word form)) ×
    (first_of (codes "alphabet") rows ≡ None)

-- the kind of the file of rows: the given one, or this default
abbrev pub rows_kind : FileKind → List Row → FileKind
rows_kind default rows = unwrap_or (kind_named (first_of (codes "kind") rows)) default

-- the requested rows; the default kind is classes
pub record AsksForRows (rows : List Row) (asked : AskedRows) : Type 0 where
  pub of : first_of (codes "of") rows ≡ None
  pub kind : asked.kind ≡ rows_kind Classes rows
  pub tables : TakesTables rows asked.tables
  pub letters : LettersAre rows asked.letters
  pub form : FormIs rows asked.form
  pub lengths : first_of (codes "length") rows ≡ Some asked.lengths.now
  pub directions : first_of (codes "directions") rows ≡ Some asked.directions.now

-- the text whose lines are requested as rows, with no argument that determines texts of a form; the default kind is
-- characters
pub record AsksForLines (rows : List Row) (asked : AskedLines) : Type 0 where
  pub of : first_of (codes "of") rows ≡ Some asked.file.now
  pub alone : has_form_words rows ≡ false
  pub kind : asked.kind ≡ rows_kind Characters rows
  pub tables : TakesTables rows asked.tables
  pub directions : first_of (codes "directions") rows ≡ Some asked.directions.now

-- the row to be explained, with no argument for another text or its direction
pub record AsksToExplainRow (rows : List Row) (wanted : WantedRow) : Type 0 where
  pub given : is_some (first_of (codes "row") rows) ≡ true
  pub alone : has_text_words rows ≡ false
  pub kind : kind_named (first_of (codes "kind") rows) ≡ Some wanted.kind
  pub tables : NamesTables rows wanted.tables
  pub line : LineIs (one_of (codes "row") rows) wanted.line
  pub file : first_of (codes "file") rows ≡ Some wanted.file.now

-- the subcommand of this name prints this of a text, with these values
abbrev pub AsksToPrint : Text → List Row → Print → Type 0
AsksToPrint name rows Levels = name ≡ codes "levels"
AsksToPrint name rows (Reorder columns) = (name ≡ codes "reorder") × ColumnsAre (one_of (codes "columns") rows) columns
AsksToPrint name rows Explained = (name ≡ codes "explain") × (has_row_words rows ≡ false)
    × (has_two_tables rows ≡ false) × (first_of (codes "classes") rows ≡ None) × (first_of (codes "codes") rows ≡ None)

-- the values of the subcommand of this name make this request
abbrev pub AsksFor : Text → List Row → Request → Type 0
AsksFor name rows (requested.Text tables direction file print) = AsksToPrint name rows print
    × (first_of (codes "tables") rows ≡ folder_of tables) ×
    (direction ≡ direction_named (first_of (codes "direction") rows))
    × (first_of (codes "file") rows ≡ Some file.now)
AsksFor name rows (requested.ExplainClasses classes direction) = (name ≡ codes "explain") × (has_row_words rows ≡ false)
    × (has_table_words rows ≡ false) × (first_of (codes "classes") rows ≡ Some classes.now) ×
    (first_of (codes "codes") rows ≡ None)
    × (direction ≡ direction_named (first_of (codes "direction") rows)) × (first_of (codes "file") rows ≡ None)
AsksFor name rows (requested.ExplainCodes noted tables direction) = (name ≡ codes "explain") ×
    (has_row_words rows ≡ false)
    × TakesTables rows tables × (first_of (codes "classes") rows ≡ None) ×
    (first_of (codes "codes") rows ≡ Some noted.now)
    × (direction ≡ direction_named (first_of (codes "direction") rows)) × (first_of (codes "file") rows ≡ None)
AsksFor name rows (requested.ExplainRow wanted) = (name ≡ codes "explain") × AsksToExplainRow rows wanted
AsksFor name rows (requested.Judge kind tables file) = (name ≡ codes "judge")
    × (kind_named (first_of (codes "kind") rows) ≡ Some kind) × NamesTables rows tables
    × (first_of (codes "file") rows ≡ Some file.now)
AsksFor name rows (requested.Report kind tables file options) = (name ≡ codes "report")
    × (kind_named (first_of (codes "kind") rows) ≡ Some kind) × NamesTables rows tables
    × (first_of (codes "file") rows ≡ Some file.now) × NumberIs 20 (one_of (codes "most") rows) options.most
    × (options.leniency ≡ leniency_in rows)
AsksFor name rows (requested.Rows asked) = (name ≡ codes "rows") × AsksForRows rows asked
AsksFor name rows (requested.RowsOf asked) = (name ≡ codes "rows") × AsksForLines rows asked

-- the given subcommand makes this request
abbrev pub IsAskedBy : Option (Text × List Row) → Request → Type 0
IsAskedBy None request = ⊥
IsAskedBy (Some met) request = AsksFor met.0 met.1 request

-- the detail in which a fault is reported, for the given subcommand
abbrev pub detail_by : Option (Text × List Row) → Detail
detail_by None = Brief
detail_by (Some met) = detail_in met.1

-- the given subcommand makes this request, and its fault is reported in this detail
abbrev pub IsInvokedBy : Option (Text × List Row) → Invocation → Type 0
IsInvokedBy met invocation = IsAskedBy met invocation.request × (invocation.detail ≡ detail_by met)

-- the given subcommand makes no request, for this reason
abbrev pub MakesNone : Option (Text × List Row) → NoRequest → Type 0
MakesNone met why = (why ≡ rejection_without_request met) × ((request : Request) → ¬ (IsAskedBy met request))

-- `clap` accepts the arguments, and they give this subcommand, with these values
pub record HasMet (words : List Text) (met : Option (Text × List Row)) : Type 0 where
  pub app : App
  pub is : IsBidi app
  pub passes : fault_of app words ≡ []
  pub same : met ≡ subcommand_of app words

-- the arguments make this request, in this detail
abbrev pub IsRead : List Text → Invocation → Type 0
IsRead words invocation = (met : Option (Text × List Row)) × HasMet words met × IsInvokedBy met invocation

-- the error of `clap`: an allocation failed, or the arguments are rejected with this kind of error, or they ask for
-- help or the version
abbrev pub IsRejectedByClap : List Text → Error → Type 0
IsRejectedByClap words error = (kind_of error ≡ OutOfMemory)
    ⊎ ((app : App) × IsBidi app × IsAmong (kind_of error) (fault_of app words))

-- `clap` accepts the arguments, but they make no request, for this reason
abbrev pub WordsMakeNone : List Text → NoRequest → Type 0
WordsMakeNone words why = (met : Option (Text × List Row)) × HasMet words met × MakesNone met why

-- why the arguments make no request
abbrev pub IsUnread : List Text → WordsFault → Type 0
IsUnread words (fault.ByClap error) = IsRejectedByClap words error
IsUnread words (fault.NoRequest why) = WordsMakeNone words why

-- the result of reading the arguments: a request with its detail, or why they make none
abbrev pub IsReadAs : List Text → Result Invocation WordsFault → Type 0
IsReadAs words (Ok invocation) = IsRead words invocation
IsReadAs words (Err fault) = IsUnread words fault

-- Why arguments that `clap` accepts make no request, and what is printed for the user then.
use Rattle.std.specs.Prelude.{◌&&◌, ◌||◌, Bool, false, ℕ, List, [], ◌∷◌, Option, None, Some, is_some, not, codes, if◌then◌else◌}
use Rattle.std.specs.List.{concat}
use Rattle.std.specs.Str.{bytes_eq}
use Rattle.clap.specs.Walk.{Row, Text, first_of}
use Rattle.command.specs.declared.help.TheConstants.{BIDI_USAGE, EXPLAIN_USAGE, JUDGE_USAGE, REPORT_USAGE, ROWS_USAGE}
use Rattle.command.specs.declared.rejection.NoRequest.{NoRequest}
use Rattle.command.specs.declared.rejection.NoRequest.TheVariants.{TwoTables, ClassesAndText, CodesAndText, NoText, RowAndText, RowWithoutKind, RowWithoutFile, KindWithoutRow, TextAndForm, NoForm, NoLength, NoAlphabet, AlphabetAndForm, NoSubcommand}
use Rattle.command.specs.declared.rejection.TableCommand.TheVariants.{Explain, Judge, Report, Rows}

-- a flag is given, by its value
abbrev pub is_given : Option Text → Bool
is_given None = false
is_given (Some word) = bytes_eq word (codes "true")

-- tables are named: those of a folder, or the built-in ones
abbrev pub has_table_words : List Row → Bool
has_table_words rows = is_some (first_of (codes "tables") rows) || is_given (first_of (codes "built-in") rows)

-- both are named, which is not allowed
abbrev pub has_two_tables : List Row → Bool
has_two_tables rows = is_some (first_of (codes "tables") rows) && is_given (first_of (codes "built-in") rows)

-- classes are given, and also a text or tables
abbrev pub has_classes_and_text : List Row → Bool
has_classes_and_text rows =
    is_some (first_of (codes "classes") rows) && (has_table_words rows || is_some (first_of (codes "file") rows))

-- code points are given, and also classes or a text
abbrev pub has_codes_and_text : List Row → Bool
has_codes_and_text rows =
    is_some (first_of (codes "codes") rows) && (is_some (first_of (codes "classes") rows) ||
    is_some (first_of (codes "file") rows))

-- a row is given, or the kind of a file; only a row has a kind
abbrev pub has_row_words : List Row → Bool
has_row_words rows = is_some (first_of (codes "row") rows) || is_some (first_of (codes "kind") rows)

-- classes, code points or a direction are given; none of them can be used with a row, which has its own directions
abbrev pub has_text_words : List Row → Bool
has_text_words rows =
    is_some (first_of (codes "classes") rows) || (is_some (first_of (codes "codes") rows) ||
    is_some (first_of (codes "direction") rows))

-- for `explain` with a row: classes, code points and a direction are not allowed, and its kind and a file are required
abbrev pub row_rejection : List Row → NoRequest
row_rejection rows =
    if has_text_words rows then RowAndText
    else (if is_some (first_of (codes "kind") rows) then RowWithoutFile else RowWithoutKind)

-- without a row: exactly one of a text, code points and classes is required
abbrev pub text_rejection : List Row → NoRequest
text_rejection rows =
    if has_classes_and_text rows then ClassesAndText else (if has_codes_and_text rows then CodesAndText else NoText)

-- for `explain`
abbrev pub explain_rejection : List Row → NoRequest
explain_rejection rows =
    if has_two_tables rows then TwoTables Explain
    else (if is_some (first_of (codes "row") rows) then row_rejection rows
    else (if is_some (first_of (codes "kind") rows) then KindWithoutRow else text_rejection rows))

-- the texts of this form are made of an alphabet; other forms have their own letters
abbrev pub takes_alphabet : Text → Bool
takes_alphabet form = bytes_eq form (codes "exhaustive") || bytes_eq form (codes "random")

-- the form takes an alphabet
abbrev pub is_over_alphabet : Option Text → Bool
is_over_alphabet None = false
is_over_alphabet (Some form) = takes_alphabet form

-- an argument determines the texts of a form
abbrev pub has_form_words : List Row → Bool
has_form_words rows =
    is_some (first_of (codes "form") rows) || (is_some (first_of (codes "alphabet") rows) ||
    (is_some (first_of (codes "length") rows)
    || (is_some (first_of (codes "seed") rows) || is_some (first_of (codes "count") rows))))

-- for `rows` with a form: lengths are required; an alphabet is required if the form takes one, and not allowed
-- otherwise
abbrev pub form_rejection : List Row → NoRequest
form_rejection rows =
    if not (is_some (first_of (codes "length") rows)) then NoLength
    else (if is_over_alphabet (first_of (codes "form") rows) then NoAlphabet else AlphabetAndForm)

-- for `rows`: a text or a form is required, and a text excludes arguments that determine texts of a form
abbrev pub rows_rejection : List Row → NoRequest
rows_rejection rows =
    if has_two_tables rows then TwoTables Rows
    else (if is_some (first_of (codes "of") rows) then TextAndForm
    else (if is_some (first_of (codes "form") rows) then form_rejection rows else NoForm))

-- for the subcommand of this name; `judge` and `report` make no request only if two sources of tables are named, since
-- `clap` requires their kind and their file
abbrev pub rejection_in_subcommand : Text → List Row → NoRequest
rejection_in_subcommand name rows =
    if bytes_eq name (codes "explain") then explain_rejection rows
    else (if bytes_eq name (codes "judge") then TwoTables Judge
    else (if bytes_eq name (codes "report") then TwoTables Report
    else (if bytes_eq name (codes "rows") then rows_rejection rows else NoSubcommand)))

-- for the given subcommand
abbrev pub rejection_without_request : Option (Text × List Row) → NoRequest
rejection_without_request None = NoSubcommand
rejection_without_request (Some met) = rejection_in_subcommand met.0 met.1

-- what is wrong, in words
abbrev pub words_without_request : NoRequest → List ℕ
words_without_request (TwoTables command) = codes "the argument '--tables <DIR>' cannot be used with '--built-in'"
words_without_request ClassesAndText =
    codes "the argument '--classes <CLASSES>' cannot be used with '--tables <DIR>', '--built-in' or '<FILE>'"
words_without_request CodesAndText =
    codes "the argument '--codes <CODES>' cannot be used with '--classes <CLASSES>' or '<FILE>'"
words_without_request NoText = codes "'<FILE>' is required, or '--codes <CODES>', or '--classes <CLASSES>'"
words_without_request RowAndText =
    codes "the argument '--row <LINE>' cannot be used with '--classes <CLASSES>', '--codes <CODES>' or '--direction <DIRECTION>'"
words_without_request RowWithoutKind = codes "the argument '--kind <KIND>' is required with '--row <LINE>'"
words_without_request RowWithoutFile = codes "'<FILE>' is required with '--row <LINE>'"
words_without_request KindWithoutRow = codes "the argument '--kind <KIND>' can be used only with '--row <LINE>'"
words_without_request TextAndForm =
    codes "the argument '--of <FILE>' cannot be used with '--form <FORM>', '--alphabet <LETTERS>', '--length <LENGTHS>', '--seed <N>' or '--count <N>'"
words_without_request NoForm = codes "'--form <FORM>' is required, or '--of <FILE>'"
words_without_request NoLength = codes "the argument '--length <LENGTHS>' is required with '--form <FORM>'"
words_without_request NoAlphabet =
    codes "the argument '--alphabet <LETTERS>' is required with '--form exhaustive' and '--form random'"
words_without_request AlphabetAndForm =
    codes "the argument '--alphabet <LETTERS>' can be used only with '--form exhaustive' and '--form random'"
words_without_request NoSubcommand = codes "a subcommand is needed"

-- the usage of the subcommand
abbrev pub usage_without_request : NoRequest → List ℕ
usage_without_request (TwoTables Explain) = EXPLAIN_USAGE.now
usage_without_request (TwoTables Judge) = JUDGE_USAGE.now
usage_without_request (TwoTables Report) = REPORT_USAGE.now
usage_without_request (TwoTables Rows) = ROWS_USAGE.now
usage_without_request ClassesAndText = EXPLAIN_USAGE.now
usage_without_request CodesAndText = EXPLAIN_USAGE.now
usage_without_request NoText = EXPLAIN_USAGE.now
usage_without_request RowAndText = EXPLAIN_USAGE.now
usage_without_request RowWithoutKind = EXPLAIN_USAGE.now
usage_without_request RowWithoutFile = EXPLAIN_USAGE.now
usage_without_request KindWithoutRow = EXPLAIN_USAGE.now
usage_without_request TextAndForm = ROWS_USAGE.now
usage_without_request NoForm = ROWS_USAGE.now
usage_without_request NoLength = ROWS_USAGE.now
usage_without_request NoAlphabet = ROWS_USAGE.now
usage_without_request AlphabetAndForm = ROWS_USAGE.now
usage_without_request NoSubcommand = BIDI_USAGE.now

-- what is printed for the user
abbrev pub no_request_text : NoRequest → List ℕ
no_request_text why =
    concat (codes "error: " ∷ words_without_request why ∷ codes "\n\nUsage: " ∷ usage_without_request why
    ∷ codes "\n\nFor more information, try '--help'.\n" ∷ [])

-- Worked command lines: the subcommand that the arguments name, and the values that they give it.
use Rattle.std.specs.Prelude.{◌≡◌, Bool, List, [], ◌∷◌, Option, None, Some, codes, false, option_map, refl, true}
use Rattle.clap.proofs.OnLiterals.{clap_on_literals}
use Rattle.clap.specs.Faults.{fault_of}
use Rattle.clap.specs.Simple.{subcommand_of}
use Rattle.clap.specs.Walk.{Row, Text, first_of, one_of}
use Rattle.clap.specs.declared.error.kind.ErrorKind.{ErrorKind}
use Rattle.clap.specs.declared.error.kind.ErrorKind.TheVariants.{DisplayVersion, InvalidValue, TooManyValues, UnknownArgument, ValueValidation}
use Rattle.report.specs.ReadExpected.{strict}
use Rattle.report.specs.declared.terms.Parts.TheVariants as parts
use Rattle.report.specs.declared.terms.Positions.TheVariants as positions
use Rattle.units.specs.declared.level.Direction.{Direction}
use Rattle.units.specs.declared.level.Direction.TheVariants.{Auto, Rtl}
use Rattle.command.specs.CommandLine.{Choices, bidi_app, detail_in, direction_named, kind_named, leniency_in, rows_kind}
use Rattle.command.specs.Rejections.{is_given, rejection_without_request}
use Rattle.command.specs.declared.rejection.NoRequest.{NoRequest}
use Rattle.command.specs.declared.rejection.NoRequest.TheVariants.{AlphabetAndForm, ClassesAndText, CodesAndText, KindWithoutRow, NoAlphabet, NoForm, NoLength, NoText, RowAndText, RowWithoutFile, RowWithoutKind, TextAndForm, TwoTables}
use Rattle.command.specs.declared.rejection.TableCommand.TheVariants.{Explain, Judge, Report, Rows}
use Rattle.requests.specs.declared.fault.Detail.TheVariants.{Brief, Verbose}
use Rattle.requests.specs.declared.request.FileKind.{FileKind}
use Rattle.requests.specs.declared.request.FileKind.TheVariants.{Characters}

-- for these arguments after the program's name: the subcommand, the errors, and why they make no request
abbrev meets : Choices → List Text → Option (Text × List Row)
meets c words = subcommand_of (bidi_app c) (codes "bidi" ∷ words)

abbrev faults : Choices → List Text → List ErrorKind
faults c words = fault_of (bidi_app c) (codes "bidi" ∷ words)

abbrev rejection : Choices → List Text → NoRequest
rejection c words = rejection_without_request (meets c words)

-- a subcommand with its folder, whether it takes the built-in tables, and its classes, code points, direction, text of
-- columns, kind and file
pub record Met : Type 0 where
  pub name : Text
  pub tables : Option Text
  pub built_in : Bool
  pub classes : Option Text
  pub codes : Option Text
  pub direction : Direction
  pub columns : Option Text
  pub kind : Option FileKind
  pub file : Option Text

abbrev pub met : Text × List Row → Met
met p = record {
  name = p.0;
  tables = first_of (codes "tables") p.1;
  built_in = is_given (first_of (codes "built-in") p.1);
  classes = first_of (codes "classes") p.1;
  codes = first_of (codes "codes") p.1;
  direction = direction_named (first_of (codes "direction") p.1);
  columns = one_of (codes "columns") p.1;
  kind = kind_named (first_of (codes "kind") p.1);
  file = first_of (codes "file") p.1;
}

-- a subcommand without arguments
abbrev bare : Text → Met
bare name = record {
  name = name;
  tables = None;
  built_in = false;
  classes = None;
  codes = None;
  direction = Auto;
  columns = None;
  kind = None;
  file = None;
}

-- the default direction is auto
pub levels_words : (c : Choices) →
    option_map met (meets c (codes "levels" ∷ codes "--tables" ∷ codes "t" ∷ codes "FILE" ∷ []))
    ≡ Some (record (bare (codes "levels")) { tables = Some (codes "t"); file = Some (codes "FILE") })
unfolding clap_on_literals
levels_words c = refl

-- without a folder
pub standard_words : (c : Choices) → option_map met (meets c (codes "levels" ∷ codes "FILE" ∷ []))
    ≡ Some (record (bare (codes "levels")) { file = Some (codes "FILE") })
unfolding clap_on_literals
standard_words c = refl

-- a folder without a name
pub no_folder_words : (c : Choices) → faults c (codes "levels" ∷ codes "--tables" ∷ codes "" ∷ codes "FILE" ∷ []) ≡
    InvalidValue ∷ []
unfolding clap_on_literals
no_folder_words c = refl

-- standard input
pub input_words : (c : Choices) →
    option_map met (meets c (codes "levels" ∷ codes "--tables" ∷ codes "t" ∷ codes "-" ∷ []))
    ≡ Some (record (bare (codes "levels")) { tables = Some (codes "t"); file = Some (codes "-") })
unfolding clap_on_literals
input_words c = refl

-- the version is requested
pub version_words : (c : Choices) → faults c (codes "--version" ∷ []) ≡ DisplayVersion ∷ []
unfolding clap_on_literals
version_words c = refl

-- options in any order, and values after `=`
pub reorder_words : (c : Choices) → option_map met (meets c
    (codes "reorder" ∷ codes "--columns=2" ∷ codes "FILE" ∷ codes "--direction" ∷ codes "rtl" ∷ codes "--tables=t" ∷
    []))
    ≡ Some (record (bare (codes "reorder")) {
      tables = Some (codes "t");
      direction = Rtl;
      columns = Some (codes "2");
      file = Some (codes "FILE");
    })
unfolding clap_on_literals
reorder_words c = refl

-- of a kind, with tables
pub judge_words : (c : Choices) → option_map met (meets c
    (codes "judge" ∷ codes "--kind" ∷ codes "characters" ∷ codes "--tables" ∷ codes "t" ∷ codes "FILE" ∷ []))
    ≡ Some (record (bare (codes "judge")) {
      tables = Some (codes "t");
      kind = Some Characters;
      file =
          Some (codes "FILE");
    })
unfolding clap_on_literals
judge_words c = refl

-- with the built-in tables, for standard input
pub judge_built_in_words : (c : Choices) → option_map met (meets c
    (codes "judge" ∷ codes "--kind" ∷ codes "characters" ∷ codes "--built-in" ∷ codes "-" ∷ []))
    ≡ Some (record (bare (codes "judge")) { built_in = true; kind = Some Characters; file = Some (codes "-") })
unfolding clap_on_literals
judge_built_in_words c = refl

-- both: no request, and the reason
pub judge_two_tables_words : (c : Choices) → rejection c
    (codes "judge" ∷ codes "--kind" ∷ codes "characters" ∷ codes "--tables" ∷ codes "t" ∷ codes "--built-in" ∷
    codes "FILE" ∷ []) ≡ TwoTables Judge
unfolding clap_on_literals
judge_two_tables_words c = refl

pub report_two_tables_words : (c : Choices) → rejection c
    (codes "report" ∷ codes "--built-in" ∷ codes "--kind" ∷ codes "classes" ∷ codes "--tables=t" ∷ codes "FILE" ∷ []) ≡
    TwoTables Report
unfolding clap_on_literals
report_two_tables_words c = refl

-- a flag of the subcommands that take rows
pub levels_built_in_words : (c : Choices) → faults c (codes "levels" ∷ codes "--built-in" ∷ codes "FILE" ∷ []) ≡
    UnknownArgument ∷ []
unfolding clap_on_literals
levels_built_in_words c = refl

-- a report: the number of wrong cases that are printed is given as a separate argument, or not given
abbrev report_met : Text × List Row → Text × Option Text × Option Text × Option Text
report_met p = (p.0, first_of (codes "kind") p.1, one_of (codes "most") p.1, first_of (codes "file") p.1)

pub report_words : (c : Choices) → option_map report_met (meets c
    (codes "report" ∷ codes "--most" ∷ codes "0" ∷ codes "--kind=classes" ∷ codes "FILE" ∷ []))
    ≡ Some (codes "report", Some (codes "classes"), Some (codes "0"), Some (codes "FILE"))
unfolding clap_on_literals
report_words c = refl

pub report_default_words : (c : Choices) → option_map report_met (meets c
    (codes "report" ∷ codes "--kind" ∷ codes "classes" ∷ codes "FILE" ∷ []))
    ≡ Some (codes "report", Some (codes "classes"), None, Some (codes "FILE"))
unfolding clap_on_literals
report_default_words c = refl

-- which expected results are compared: all if no flag is given, and with two flags the order of what is shown
pub report_strict_words : (c : Choices) → option_map (λ p. leniency_in p.1) (meets c
    (codes "report" ∷ codes "--kind" ∷ codes "classes" ∷ codes "FILE" ∷ [])) ≡ Some strict
unfolding clap_on_literals
report_strict_words c = refl

pub report_lenient_words : (c : Choices) → option_map (λ p. leniency_in p.1) (meets c
    (codes "report" ∷ codes "--shown" ∷ codes "--kind" ∷ codes "classes" ∷ codes "--order" ∷ codes "FILE" ∷ []))
    ≡ Some (record { parts = parts.OrderAlone; positions = positions.Shown })
unfolding clap_on_literals
report_lenient_words c = refl

-- a flag takes no value
pub report_flag_value_words : (c : Choices) → faults c
    (codes "report" ∷ codes "--kind" ∷ codes "classes" ∷ codes "--order=true" ∷ codes "FILE" ∷ []) ≡ TooManyValues ∷ []
unfolding clap_on_literals
report_flag_value_words c = refl

-- the explanation of a text with tables of a folder
pub explain_words : (c : Choices) →
    option_map met (meets c (codes "explain" ∷ codes "--tables" ∷ codes "t" ∷ codes "FILE" ∷ []))
    ≡ Some (record (bare (codes "explain")) { tables = Some (codes "t"); file = Some (codes "FILE") })
unfolding clap_on_literals
explain_words c = refl

-- with the built-in ones
pub explain_standard_words : (c : Choices) → option_map met (meets c (codes "explain" ∷ codes "FILE" ∷ []))
    ≡ Some (record (bare (codes "explain")) { file = Some (codes "FILE") })
unfolding clap_on_literals
explain_standard_words c = refl

-- with the built-in ones, given as a flag
pub explain_built_in_words : (c : Choices) →
    option_map met (meets c (codes "explain" ∷ codes "--built-in" ∷ codes "FILE" ∷ []))
    ≡ Some (record (bare (codes "explain")) { built_in = true; file = Some (codes "FILE") })
unfolding clap_on_literals
explain_built_in_words c = refl

-- of classes; the blanks are in one argument
pub explain_classes_words : (c : Choices) → option_map met (meets c
    (codes "explain" ∷ codes "--direction" ∷ codes "rtl" ∷ codes "--classes" ∷ codes "R ON L" ∷ []))
    ≡ Some (record (bare (codes "explain")) { classes = Some (codes "R ON L"); direction = Rtl })
unfolding clap_on_literals
explain_classes_words c = refl

-- of code points, in the same way
pub explain_codes_words : (c : Choices) →
    option_map met (meets c (codes "explain" ∷ codes "--codes" ∷ codes "05D0 0028" ∷ []))
    ≡ Some (record (bare (codes "explain")) { codes = Some (codes "05D0 0028") })
unfolding clap_on_literals
explain_codes_words c = refl

-- none of these, and two of them: no request, and the reason
pub explain_nothing_words : (c : Choices) → rejection c (codes "explain" ∷ []) ≡ NoText
unfolding clap_on_literals
explain_nothing_words c = refl

pub explain_both_words : (c : Choices) →
    rejection c (codes "explain" ∷ codes "--classes" ∷ codes "R" ∷ codes "FILE" ∷ []) ≡ ClassesAndText
unfolding clap_on_literals
explain_both_words c = refl

pub explain_codes_and_classes_words : (c : Choices) → rejection c
    (codes "explain" ∷ codes "--classes" ∷ codes "R" ∷ codes "--codes" ∷ codes "05D0" ∷ []) ≡ CodesAndText
unfolding clap_on_literals
explain_codes_and_classes_words c = refl

pub explain_classes_and_tables_words : (c : Choices) →
    rejection c (codes "explain" ∷ codes "--classes" ∷ codes "R" ∷ codes "--built-in" ∷ [])
    ≡ ClassesAndText
unfolding clap_on_literals
explain_classes_and_tables_words c = refl

pub explain_two_tables_words : (c : Choices) →
    rejection c (codes "explain" ∷ codes "--built-in" ∷ codes "--tables" ∷ codes "t" ∷ codes "FILE" ∷ [])
    ≡ TwoTables Explain
unfolding clap_on_literals
explain_two_tables_words c = refl

-- a row of a file: its line, the file's kind, its folder and name
abbrev row_met : Text × List Row → Option Text × Option FileKind × Option Text × Option Text
row_met p = (
  one_of (codes "row") p.1,
  kind_named (first_of (codes "kind") p.1),
  first_of (codes "tables") p.1,
  first_of (codes "file") p.1,
)

pub explain_row_words : (c : Choices) → option_map row_met (meets c
    (codes "explain" ∷ codes "--row=12" ∷ codes "--kind" ∷ codes "characters" ∷ codes "FILE" ∷ codes "--tables" ∷
    codes "t" ∷ []))
    ≡ Some (Some (codes "12"), Some Characters, Some (codes "t"), Some (codes "FILE"))
unfolding clap_on_literals
explain_row_words c = refl

-- no line has the number 0
pub explain_no_row_words : (c : Choices) → faults c
    (codes "explain" ∷ codes "--row" ∷ codes "0" ∷ codes "--kind" ∷ codes "classes" ∷ codes "FILE" ∷ []) ≡
    ValueValidation ∷ []
unfolding clap_on_literals
explain_no_row_words c = refl

-- a direction with a row, a row without a kind or a file, and a kind without a row: no request, and the reason
pub explain_row_and_direction_words : (c : Choices) → rejection c
    (codes "explain" ∷ codes "--row" ∷ codes "1" ∷ codes "--direction" ∷ codes "auto" ∷ codes "--kind" ∷
    codes "classes" ∷ codes "FILE" ∷ [])
    ≡ RowAndText
unfolding clap_on_literals
explain_row_and_direction_words c = refl

pub explain_row_without_kind_words : (c : Choices) →
    rejection c (codes "explain" ∷ codes "--row" ∷ codes "1" ∷ codes "FILE" ∷ [])
    ≡ RowWithoutKind
unfolding clap_on_literals
explain_row_without_kind_words c = refl

pub explain_row_without_file_words : (c : Choices) → rejection c
    (codes "explain" ∷ codes "--row" ∷ codes "1" ∷ codes "--kind" ∷ codes "classes" ∷ []) ≡ RowWithoutFile
unfolding clap_on_literals
explain_row_without_file_words c = refl

pub explain_kind_without_row_words : (c : Choices) →
    rejection c (codes "explain" ∷ codes "--kind" ∷ codes "classes" ∷ codes "FILE" ∷ [])
    ≡ KindWithoutRow
unfolding clap_on_literals
explain_kind_without_row_words c = refl

-- rows: their form, kind, alphabet, lengths and directions; the default is three directions
abbrev rows_met : Text × List Row → Option Text × Option FileKind × Option Text × Option Text × Option Text
rows_met p = (
  first_of (codes "form") p.1,
  kind_named (first_of (codes "kind") p.1),
  first_of (codes "alphabet") p.1,
  first_of (codes "length") p.1,
  first_of (codes "directions") p.1,
)

pub rows_words : (c : Choices) → option_map rows_met (meets c
    (codes "rows" ∷ codes "--form" ∷ codes "exhaustive" ∷ codes "--alphabet" ∷ codes "R ON L" ∷ codes "--length=1..3" ∷
    []))
    ≡ Some (Some (codes "exhaustive"), None, Some (codes "R ON L"), Some (codes "1..3"), Some (codes "auto ltr rtl"))
unfolding clap_on_literals
rows_words c = refl

-- of a form of hard texts
pub hard_rows_words : (c : Choices) → option_map rows_met (meets c
    (codes "rows" ∷ codes "--form=nest" ∷ codes "--kind" ∷ codes "characters" ∷ codes "--length" ∷ codes "9" ∷
    codes "--directions" ∷ codes "rtl" ∷ []))
    ≡ Some (Some (codes "nest"), Some Characters, None, Some (codes "9"), Some (codes "rtl"))
unfolding clap_on_literals
hard_rows_words c = refl

-- an alphabet that is missing, and one too many: no request, and the reason
pub rows_without_alphabet_words : (c : Choices) → rejection c
    (codes "rows" ∷ codes "--form" ∷ codes "random" ∷ codes "--length" ∷ codes "1" ∷ []) ≡ NoAlphabet
unfolding clap_on_literals
rows_without_alphabet_words c = refl

pub rows_with_two_letters_words : (c : Choices) → rejection c
    (codes "rows" ∷ codes "--form" ∷ codes "nest" ∷ codes "--alphabet" ∷ codes "L" ∷ codes "--length" ∷ codes "1" ∷
    []) ≡ AlphabetAndForm
unfolding clap_on_literals
rows_with_two_letters_words c = refl

-- rows of the lines of a text, and their default kind
pub text_rows_words : (c : Choices) →
    option_map (λ p. first_of (codes "of") p.1) (meets c (codes "rows" ∷ codes "--of" ∷ codes "-" ∷ []))
    ≡ Some (Some (codes "-"))
unfolding clap_on_literals
text_rows_words c = refl

pub text_rows_kind : (c : Choices) →
    option_map (λ p. rows_kind Characters p.1) (meets c (codes "rows" ∷ codes "--of" ∷ codes "-" ∷ []))
    ≡ Some Characters
unfolding clap_on_literals
text_rows_kind c = refl

-- a text with a form, neither of them, and a form without lengths: no request, and the reason
pub rows_of_text_and_form_words : (c : Choices) →
    rejection c (codes "rows" ∷ codes "--of" ∷ codes "t" ∷ codes "--seed" ∷ codes "1" ∷ [])
    ≡ TextAndForm
unfolding clap_on_literals
rows_of_text_and_form_words c = refl

pub rows_of_nothing_words : (c : Choices) → rejection c (codes "rows" ∷ []) ≡ NoForm
unfolding clap_on_literals
rows_of_nothing_words c = refl

pub rows_without_length_words : (c : Choices) → rejection c (codes "rows" ∷ codes "--form" ∷ codes "nest" ∷ []) ≡
    NoLength
unfolding clap_on_literals
rows_without_length_words c = refl

-- the built-in tables, and those of a folder, for the lines of a text
pub rows_two_tables_words : (c : Choices) → rejection c
    (codes "rows" ∷ codes "--of" ∷ codes "-" ∷ codes "--tables" ∷ codes "t" ∷ codes "--built-in" ∷ []) ≡ TwoTables Rows
unfolding clap_on_literals
rows_two_tables_words c = refl

-- the reason of a fault is requested, with either name of the flag and at any place after the subcommand, or it is not
pub verbose_words : (c : Choices) → option_map (λ p. detail_in p.1) (meets c
    (codes "judge" ∷ codes "--kind" ∷ codes "classes" ∷ codes "FILE" ∷ codes "--verbose" ∷ [])) ≡ Some Verbose
unfolding clap_on_literals
verbose_words c = refl

pub short_verbose_words : (c : Choices) →
    option_map (λ p. detail_in p.1) (meets c (codes "levels" ∷ codes "-v" ∷ codes "FILE" ∷ []))
    ≡ Some Verbose
unfolding clap_on_literals
short_verbose_words c = refl

pub brief_words : (c : Choices) → option_map (λ p. detail_in p.1) (meets c (codes "levels" ∷ codes "FILE" ∷ [])) ≡
    Some Brief
unfolding clap_on_literals
brief_words c = refl

-- a flag of the subcommands, and not of the command itself
pub verbose_without_subcommand : (c : Choices) →
    faults c (codes "-v" ∷ codes "levels" ∷ codes "FILE" ∷ []) ≡ UnknownArgument ∷ []
unfolding clap_on_literals
verbose_without_subcommand c = refl

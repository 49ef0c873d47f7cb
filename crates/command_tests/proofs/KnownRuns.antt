-- Small files and a class, and what is printed for them.
use Rattle.std.specs.Prelude.{◌≡◌, ◌^◌, ◌-◌, ℕ, List, [], ◌∷◌, Option, None, Some, Result, Ok, Err, IfOk, is_ok, true, codes, refl}
use Rattle.std.specs.Borrow.{Bor}
use Rattle.std.specs.Char.{encode_utf8}
use Rattle.std.specs.declared.num.NonZeroU64.{NonZeroU64}
use Rattle.std.specs.Fmt.{digits}
use Rattle.std.specs.Io.KnownBytes.{Appends}
use Rattle.std.specs.Str.{chars}
use Rattle.std.proofs.Common.{◌++◌, ap, ap₂, inl, inr, lit≤, subst, sym, ◌∙◌}
use Rattle.units.specs.Layout.{layout_of}
use Rattle.units.specs.RowWords.{layouts_compute}
use Rattle.units.specs.Limits.{standard}
use Rattle.units.specs.Text.{lines_of}
use Rattle.units.specs.declared.class.Class.{Class}
use Rattle.units.specs.declared.class.Class.TheVariants.{R, ON}
use Rattle.units.specs.declared.bracket.Bracket.{Bracket}
use Rattle.units.specs.declared.bracket.Bracket.TheVariants.{No}
use Rattle.units.specs.declared.bracket.Key.{Key}
use Rattle.units.specs.declared.bracket.Unit.{Unit as BidiUnit}
use Rattle.units.specs.declared.level.Direction.TheVariants.{Auto}
use Rattle.ucdfiles.specs.ClassFile.{class_line_says, class_of}
use Rattle.ucdfiles.specs.PairFiles.{bracket_stated, bracket_of, mirror_of, pair_line_says}
use Rattle.ucdfiles.specs.Tables.{TablesOf, bracket_by, class_by, mirror_by, unit_by, units_by}
use Rattle.bidtests.specs.ClassesFile.{classes_line, classes_verdict}
use Rattle.bidtests.specs.CharactersFile.{characters_line, characters_findings, characters_verdict}
use Rattle.bidtests.specs.Verdicts.{Expected, Row, verdict_on}
use Rattle.bidtests.specs.WorkedClassesFiles.{classes_files_compute}
use Rattle.bidtests.specs.declared.kind.Kind.{Kind}
use Rattle.bidtests.specs.declared.kind.Kind.TheVariants as rows_of
use Rattle.bidtests.specs.declared.verdict.Verdict.TheVariants.{Yes}
use Rattle.rule_columns.specs.Columns.{columns_of}
use Rattle.rule_columns.specs.Passes.{rewritten, implicit_of, closers_of}
use Rattle.explain.specs.RowTexts.{row_text}
use Rattle.explain.specs.WantedRows.{RowView, wanted_row}
use Rattle.requests.specs.ItemWords.{classes_named}
use Rattle.command_tests.specs.KnownRuns.{alef_line, neutral_explained, neutral_row_explained}
use Rattle.requests.specs.RowsExplained.{HasAtLine}
use Rattle.requests.specs.JudgedFiles.{HasJudged, IsClassesVerdict, IsCharactersVerdict}
use Rattle.printing.specs.LevelsText.{code_text, levels_text}
use Rattle.command_tests.specs.MemoryFiles.{IsWhole, Stored, StoredFile, memory_facts, stored_at}
use Rattle.requests.specs.Printed.{HasExplained, HasPrinted}
use Rattle.printing.specs.PrintedTexts.{printed_levels, printed_reorder}
use Rattle.requests.specs.ReadFiles.{AreTables, FileNamed, IsClassPath, class_name, in_folder, most_file_bytes}
use Rattle.printing.specs.ReorderText.{reorder_text}
use Rattle.bidtests.specs.VerdictText.{verdict_text}
use Rattle.explain.specs.Explained.{explained_classes}
use Rattle.explain.specs.ExplainedRows.{no_strong}
use Rattle.requests.specs.Outcomes.{IsDone}
use Rattle.requests.specs.declared.request.FileKind.TheVariants.{Classes, Characters}
use Rattle.requests.specs.declared.request.Print.TheVariants.{Levels, Reorder}
use Rattle.requests.specs.declared.request.TableSource.TheVariants.{Folder}
use Rattle.requests.specs.declared.request.Request.TheVariants.{Text, ExplainClasses, ExplainRow, Judge}
use Rattle.requests.specs.declared.fault.Fault.{Fault}
use Rattle.requests.specs.declared.outcome.Outcome.{Outcome}
use Rattle.requests.specs.declared.outcome.Outcome.TheVariants.{Judged, Printed}

abbrev pub whole_file : List ℕ → List ℕ → StoredFile
whole_file name bytes = record { name = name; bytes = bytes; readable = 2 ^ 64 - 1 }

-- tables in which alef is R, without brackets and mirror images, and a file of these bytes
abbrev pub files_with : List ℕ → Stored
files_with bytes = record {
  files = whole_file (codes "t/DerivedBidiClass.txt") (codes "05D0 ; R\n") ∷ whole_file (codes "t/BidiBrackets.txt") []
      ∷ whole_file (codes "t/BidiMirroring.txt") [] ∷ whole_file (codes "FILE") bytes ∷ [];
  input = None;
}

-- the same with an alef in the file
abbrev pub alef_files : Stored
alef_files = files_with (215 ∷ 144 ∷ [])

-- the unit of alef
abbrev alef_unit : BidiUnit
alef_unit = record { class = R; bracket = No }

-- a text of an alef
abbrev alef : List BidiUnit
alef = alef_unit ∷ []

class_row : class_of (codes "05D0 ; R\n") 1488 ≡ R
unfolding class_of class_line_says
class_row = refl

bracket_row : (key : ℕ → Key) → bracket_stated key (bracket_of [] 1488) ≡ No
unfolding bracket_of pair_line_says
bracket_row key = refl

mirror_row : mirror_of [] 1488 ≡ None
unfolding mirror_of pair_line_says
mirror_row = refl

chars_row : chars (215 ∷ 144 ∷ []) ≡ 1488 ∷ []
unfolding chars
chars_row = refl

-- the file of the classes is in the folder itself
class_path_is : (bytes path : List ℕ) → IsClassPath (memory_facts (files_with bytes)) (codes "t") path →
    path ≡ in_folder (codes "t") class_name
class_path_is bytes path (inl e) = e
class_path_is bytes path (inr h) = let rejected = h.1.0 in cc

alef_is : (bytes : List ℕ) (tables : TablesOf) → AreTables (memory_facts (files_with bytes)) (codes "t") tables →
    unit_by tables 1488 ≡ alef_unit
alef_is bytes tables h =
    let class_file : IsWhole (stored_at (files_with bytes) (FileNamed (in_folder (codes "t") class_name)))
    most_file_bytes h.class_bytes =
    subst (λ (path : List ℕ). IsWhole (stored_at (files_with bytes) (FileNamed path)) most_file_bytes h.class_bytes)
    (class_path_is bytes h.class_path h.class_path_given) h.class_file in
    let class : class_by tables.classes 1488 ≡ R =
    h.classes.stated 1488 (lit≤ tt) ∙ ap (λ bytes. class_of bytes 1488) class_file.0 ∙ class_row in
    let bracket : bracket_by tables.brackets 1488 ≡ No =
    h.brackets.stated 1488 (lit≤ tt) ∙
    ap (λ bytes. bracket_stated h.brackets.key (bracket_of bytes 1488)) h.bracket_file.0 ∙
    bracket_row h.brackets.key in
    ap₂ (λ (c : Class) (b : Bracket). let unit : BidiUnit = record { class = c; bracket = b } in unit) class bracket

alef_units : (tables : TablesOf) → AreTables (memory_facts alef_files) (codes "t") tables →
    units_by tables (1488 ∷ []) ≡ alef
alef_units tables h = ap (λ (unit : BidiUnit). unit ∷ []) (alef_is (215 ∷ 144 ∷ []) tables h)

levels_row : levels_text (1488 ∷ []) alef (layout_of standard alef Auto []) ≡ codes "paragraph 0 level 1\n0 05D0 R 1\n"
unfolding layouts_compute code_text digits
levels_row = refl

pub levels_of_alef : (folder : Bor (List ℕ)) (before after : Option (List ℕ)) → folder.now ≡ codes "t"
    → HasPrinted (memory_facts alef_files) (λ tables text. printed_levels tables text Auto) (Folder folder)
    (codes "FILE") before after
    → Appends before after (codes "paragraph 0 level 1\n0 05D0 R 1\n")
levels_of_alef folder before after f h =
    let stated = subst (λ (name : List ℕ). AreTables (memory_facts alef_files) name h.tables) f h.stated in
    let text : h.text ≡ 1488 ∷ [] = h.read.text_is ∙ ap chars h.read.read.0 ∙ chars_row in
    let printed : printed_levels h.tables h.text Auto ≡ codes "paragraph 0 level 1\n0 05D0 R 1\n" =
    ap (λ (cs : List ℕ). printed_levels h.tables cs Auto) text
    ∙ ap (λ (units : List BidiUnit). levels_text (1488 ∷ []) units (layout_of standard units Auto []))
    (alef_units h.tables stated) ∙ levels_row in
    subst (λ (bytes : List ℕ). Appends before after bytes) printed h.noted

line_row : (images : ℕ → Option ℕ) → images 1488 ≡ None →
    reorder_text images (1488 ∷ []) alef (layout_of standard alef Auto []) ≡ alef_line
unfolding layouts_compute encode_utf8
line_row images none = rw none refl

pub line_of_alef : (folder : Bor (List ℕ)) (before after : Option (List ℕ)) → folder.now ≡ codes "t"
    → HasPrinted (memory_facts alef_files) (λ tables text. printed_reorder tables text Auto None) (Folder folder)
    (codes "FILE") before after
    → Appends before after alef_line
line_of_alef folder before after f h =
    let stated = subst (λ (name : List ℕ). AreTables (memory_facts alef_files) name h.tables) f h.stated in
    let text : h.text ≡ 1488 ∷ [] = h.read.text_is ∙ ap chars h.read.read.0 ∙ chars_row in
    let image : mirror_by h.tables.mirrors 1488 ≡ None =
    stated.mirrors.stated 1488 (lit≤ tt) ∙ ap (λ bytes. mirror_of bytes 1488) stated.mirror_file.0 ∙ mirror_row in
    let printed : printed_reorder h.tables h.text Auto None ≡ alef_line =
    ap (λ (cs : List ℕ). printed_reorder h.tables cs Auto None) text
    ∙ ap (λ (units : List BidiUnit).
    reorder_text (mirror_by h.tables.mirrors) (1488 ∷ []) units (layout_of standard units Auto []))
    (alef_units h.tables stated) ∙ line_row (mirror_by h.tables.mirrors) image in
    subst (λ (bytes : List ℕ). Appends before after bytes) printed h.noted

-- the word ON names the class ON
neutral_row : classes_named (codes "ON") ≡ Some (ON ∷ [])
neutral_row = refl

pub explanation_of_neutral : (before after : Option (List ℕ))
    → HasExplained (codes "ON") Auto before after → Appends before after neutral_explained
explanation_of_neutral before after h =
    let classes : h.classes ≡ ON ∷ [] = let named = sym h.named ∙ neutral_row in cc in
    subst (λ (bytes : List ℕ). Appends before after bytes)
    (ap (λ (cs : List Class). explained_classes cs Auto) classes ∙ no_strong) h.noted

-- a standard input of one row, which is right
abbrev pub row_bytes : List ℕ
row_bytes = codes "@Levels: 1 1 0\n@Reorder: 1 0 2\nR B L; 1\n"

abbrev pub row_files : Stored
row_files = record { files = []; input = Some (whole_file [] row_bytes) }

verdict_row : classes_verdict standard row_bytes ≡ Yes 1 1
unfolding classes_verdict verdict_on classes_line layouts_compute
verdict_row = refl

text_row : verdict_text (Yes 1 1) ≡ codes "yes: 1 rows, 1 cases\n"
unfolding digits
text_row = refl

pub line_of_verdict : (before after : Option (List ℕ)) (status : ℕ)
    → HasJudged (memory_facts row_files) IsClassesVerdict (codes "-") before after status →
    Appends before after (codes "yes: 1 rows, 1 cases\n")
line_of_verdict before after status h =
    let verdict : h.verdict ≡ Yes 1 1 = h.is ∙ ap (classes_verdict standard) h.read.0 ∙ verdict_row in
    subst (λ (bytes : List ℕ). Appends before after bytes) (ap verdict_text verdict ∙ text_row) h.noted.line

-- a file of one row of characters, which is right: an alef, under auto
abbrev pub character_bytes : List ℕ
character_bytes = codes "05D0;2;1;1;0\n"

abbrev pub character_files : Stored
character_files = files_with character_bytes

-- what the row expects of this unit
abbrev alef_expected : BidiUnit → Expected
alef_expected unit = record {
  text = unit ∷ [];
  directions = Auto ∷ [];
  para_level = Some 1;
  levels = Some 1 ∷ [];
  order = 0 ∷ [];
}

character_findings : (unit_of : ℕ → BidiUnit) →
    characters_findings unit_of (lines_of character_bytes) ≡ Row (alef_expected (unit_of 1488)) ∷ []
unfolding characters_line
character_findings unit_of = refl

alef_row_is_right : verdict_on standard (Row (alef_expected alef_unit) ∷ []) ≡ Yes 1 1
unfolding verdict_on layouts_compute
alef_row_is_right = refl

character_verdict : (tables : TablesOf) → AreTables (memory_facts character_files) (codes "t") tables →
    characters_verdict standard (unit_by tables) character_bytes ≡ Yes 1 1
unfolding characters_verdict
character_verdict tables h =
    ap (verdict_on standard) (character_findings (unit_by tables))
    ∙ ap (λ (unit : BidiUnit). verdict_on standard (Row (alef_expected unit) ∷ [])) (alef_is character_bytes tables h) ∙
    alef_row_is_right

pub line_of_characters_verdict : (folder : Bor (List ℕ)) (before after : Option (List ℕ)) (status : ℕ) →
    folder.now ≡ codes "t"
    → HasJudged (memory_facts character_files) (IsCharactersVerdict (memory_facts character_files) (Folder folder))
    (codes "FILE") before after status
    → Appends before after (codes "yes: 1 rows, 1 cases\n")
line_of_characters_verdict folder before after status f h =
    let tables = h.is.0 in
    let stated = subst (λ (name : List ℕ). AreTables (memory_facts character_files) name tables) f h.is.1 in
    let verdict : h.verdict ≡ Yes 1 1 = h.is.2 ∙ ap (characters_verdict standard (unit_by tables)) h.read.0 ∙
    character_verdict tables stated in
    subst (λ (bytes : List ℕ). Appends before after bytes) (ap verdict_text verdict ∙ text_row) h.noted.line

-- a standard input of one row, of a neutral
abbrev pub neutral_bytes : List ℕ
neutral_bytes = codes "@Levels: 0\n@Reorder: 0\nON; 1\n"

abbrev pub neutral_files : Stored
neutral_files = record { files = []; input = Some (whole_file [] neutral_bytes) }

-- the row at its third line
abbrev neutral_view : RowView
neutral_view = record {
  expected = record {
    text = record { class = ON; bracket = No } ∷ [];
    directions = Auto ∷ [];
    para_level = None;
    levels = Some 0 ∷ [];
    order = 0 ∷ [];
  };
  chars = [];
}

neutral_row_is : wanted_row rows_of.Classes 3 neutral_bytes ≡ Ok neutral_view
unfolding classes_files_compute
neutral_row_is = refl

neutral_text_is : row_text 3 neutral_view ≡ neutral_row_explained
unfolding layouts_compute columns_of rewritten implicit_of closers_of digits
neutral_text_is = refl

-- nothing follows all bytes
none_after : (bytes rest : List ℕ) → bytes ≡ bytes ++ rest → rest ≡ []
none_after [] rest e = sym e
none_after (x ∷ xs) rest e = none_after xs rest cc

pub row_of_neutral : (number : ℕ) (row : RowView) (before after : Option (List ℕ)) → number ≡ 3
    → HasAtLine (memory_facts neutral_files) rows_of.Classes number (codes "-") (Ok row) →
    Appends before after (row_text number row)
    → Appends before after neutral_row_explained
row_of_neutral number row before after e h noted =
    let rest = h.begins.0 in
    let found : wanted_row rows_of.Classes number (h.bytes ++ rest) ≡ Ok row =
    h.wanted rest (λ whole. none_after h.bytes rest (whole.0 ∙ h.begins.1)) in
    let there : wanted_row rows_of.Classes 3 neutral_bytes ≡ Ok row =
    subst (λ (n : ℕ). wanted_row rows_of.Classes n neutral_bytes ≡ Ok row) e
    (ap (wanted_row rows_of.Classes number) h.begins.1 ∙ found) in
    let is : row ≡ neutral_view = let both = sym there ∙ neutral_row_is in cc in
    subst (λ (bytes : List ℕ). Appends before after bytes) (ap₂ row_text e is ∙ neutral_text_is) noted

-- what each request over these files prints
pub levels_done : (files : Stored) (folder file : Bor (List ℕ)) (before after : Option (List ℕ)) (outcome : Outcome) →
    files ≡ alef_files
    → folder.now ≡ codes "t" → file.now ≡ codes "FILE" →
    IsDone (memory_facts files) before after (Text (Folder folder) Auto file Levels) outcome
    → Appends before after (codes "paragraph 0 level 1\n0 05D0 R 1\n")
levels_done files folder file before after (Judged status) e f g h = absurd h
levels_done files folder file before after Printed e f g h =
    levels_of_alef folder before after f (rw (e, g) at h)

pub line_done : (files : Stored) (folder file : Bor (List ℕ)) (before after : Option (List ℕ)) (outcome : Outcome) →
    files ≡ alef_files
    → folder.now ≡ codes "t" → file.now ≡ codes "FILE" →
    IsDone (memory_facts files) before after (Text (Folder folder) Auto file (Reorder None)) outcome
    → Appends before after alef_line
line_done files folder file before after (Judged status) e f g h = absurd h
line_done files folder file before after Printed e f g h =
    line_of_alef folder before after f (rw (e, g) at h)

pub explanation_done : (files : Stored) (word : Bor (List ℕ)) (before after : Option (List ℕ)) (outcome : Outcome)
    → word.now ≡ codes "ON" → IsDone (memory_facts files) before after (ExplainClasses word Auto) outcome
    → Appends before after neutral_explained
explanation_done files word before after (Judged status) e h = absurd h
explanation_done files word before after Printed e h = explanation_of_neutral before after (rw e at h)

pub verdict_done : (files : Stored) (file : Bor (List ℕ)) (before after : Option (List ℕ)) (outcome : Outcome) →
    files ≡ row_files
    → file.now ≡ codes "-" → IsDone (memory_facts files) before after (Judge Classes None file) outcome
    → Appends before after (codes "yes: 1 rows, 1 cases\n")
verdict_done files file before after Printed e g h = absurd h
verdict_done files file before after (Judged status) e g h = line_of_verdict before after status (rw (e, g) at h)

pub row_done : (files : Stored) (line : NonZeroU64) (file : Bor (List ℕ)) (before after : Option (List ℕ))
    (outcome : Outcome) → files ≡ neutral_files
    → line.value ≡ 3 → file.now ≡ codes "-"
    → IsDone (memory_facts files) before after (ExplainRow (record {
      kind = Classes;
      tables = None;
      line = line;
      file =
          file;
    })) outcome
    → Appends before after neutral_row_explained
row_done files line file before after (Judged status) e n g h = absurd h
row_done files line file before after Printed e n g h =
    let found = subst (λ (rows : Kind). HasAtLine (memory_facts files) rows line.value file.now (Ok h.row)) h.is h.found
    in
    row_of_neutral line.value h.row before after n (rw (e, g) at found) h.noted

pub characters_verdict_done : (files : Stored) (folder file : Bor (List ℕ)) (before after : Option (List ℕ))
    (outcome : Outcome) → files ≡ character_files
    → folder.now ≡ codes "t" → file.now ≡ codes "FILE" →
    IsDone (memory_facts files) before after (Judge Characters (Some (Folder folder)) file) outcome
    → Appends before after (codes "yes: 1 rows, 1 cases\n")
characters_verdict_done files folder file before after Printed e f g h = absurd h
characters_verdict_done files folder file before after (Judged status) e f g h =
    line_of_characters_verdict folder before after status f (rw (e, g) at h)

-- what follows from a result that is `Ok`
pub when_ok : (r : Result Outcome Fault) (P : Outcome → Type 0) (Q : Type 0) → is_ok r ≡ true → IfOk r P →
    ((o : Outcome) → P o → Q) → Q
when_ok (Ok outcome) P Q e h f = f outcome h
when_ok (Err fault) P Q e h f = cc

-- Worked files, the rows at their lines, and what is printed of a row.
use Rattle.std.specs.Borrow.{Bor}
use Rattle.std.specs.Prelude.{◌≡◌, ℕ, List, [], ◌∷◌, ◌++◌, Some, None, Ok, Err, codes, refl}
use Rattle.std.specs.Fmt.{digits}
use Rattle.units.specs.RowWords.{layouts_compute, plain}
use Rattle.units.specs.declared.class.Class.TheVariants.{R, ON, RLE}
use Rattle.units.specs.declared.level.Direction.TheVariants.{Auto, Ltr, AutoRtl}
use Rattle.ucdfiles.specs.Tables.{TablesOf}
use Rattle.bidtests.specs.WorkedClassesFiles.{classes_files_compute, written}
use Rattle.bidtests.specs.declared.kind.Kind.TheVariants.{Classes, Characters}
use Rattle.bidtests.specs.declared.verdict.Cause.TheVariants.{LevelItem}
use Rattle.printing.specs.LevelsText.{code_text}
use Rattle.explain.specs.Headings.{columns_text}
use Rattle.rule_columns.specs.Columns.{columns_of}
use Rattle.rule_columns.specs.Passes.{rewritten, implicit_of, closers_of}
use Rattle.explain.specs.RowTexts.{row_text}
use Rattle.explain.specs.WantedRows.{RowView, characters_of, wanted_row}
use Rattle.explain.specs.declared.row_fault.RowFault.TheVariants.{Malformed, NoRow}

-- a file of two rows
abbrev two_rows : List ℕ
two_rows = written (codes "@Levels: x 1" ∷ codes "@Reorder: 1" ∷ codes "RLE ON; 10" ∷ codes "RLE R; 1" ∷ [])

-- the expected results of its third line
abbrev neutral_row : RowView
neutral_row = record {
  expected = record {
    text = plain RLE ∷ plain ON ∷ [];
    directions = Ltr ∷ AutoRtl ∷ [];
    para_level = None;
    levels =
        None ∷ Some 1 ∷ [];
    order = 1 ∷ [];
  };
  chars = [];
}

-- the row of a line, with the lists in force there
pub third_line : wanted_row Classes 3 two_rows ≡ Ok neutral_row
unfolding classes_files_compute
third_line = refl

-- a line that lists levels is not a row, and a line past the last is none
pub first_line : wanted_row Classes 1 two_rows ≡ Err NoRow
unfolding classes_files_compute
first_line = refl

pub fifth_line : wanted_row Classes 5 two_rows ≡ Err NoRow
unfolding classes_files_compute
fifth_line = refl

-- a malformed line before the row
pub malformed_before : wanted_row Classes 4 (written (codes "@Levels: 1" ∷ codes "@Reorder: 0" ∷ codes "@Levels: 127" ∷
    codes "R; 1" ∷ [])) ≡ Err (Malformed 3 LevelItem)
unfolding classes_files_compute
malformed_before = refl

-- and one after it
pub malformed_after : wanted_row Classes 3 (two_rows ++ codes "@Levels: 127") ≡ Ok neutral_row
unfolding classes_files_compute
malformed_after = refl

-- the characters of a row of code points
pub two_characters : (tables : Bor TablesOf) →
    characters_of (Characters tables) (codes "05D0 0031;0;0;1 2;1 0 # R EN") ≡ 1488 ∷ 49 ∷ []
two_characters tables = refl

-- under each direction what each rule does, and then the expected results beside the defined ones
pub neutral_printed : row_text 3 neutral_row
    ≡ codes "line 3: ltr\n"
    ++ codes "paragraph 0 level 0: given\n" ++ columns_text
    ++ codes "0 - RLE x . . . . . . . . . . . . .\n"
    ++ codes "1 - ON 1 . . . . . . . . . R . . .\n"
    ++ codes "sequence 0 level 1 sos R eos R: 1\n"
    ++ codes "order 1\n"
    ++ codes "claimed levels: x 1\n"
    ++ codes "defined levels: x 1\n"
    ++ codes "claimed order: 1\n"
    ++ codes "defined order: 1\n"
    ++ codes "line 3: auto-rtl\n"
    ++ codes "paragraph 0 level 1: no strong character\n" ++ columns_text
    ++ codes "0 - RLE x . . . . . . . . . . . . .\n"
    ++ codes "1 - ON 3 . . . . . . . . . R . . .\n"
    ++ codes "sequence 0 level 3 sos R eos R: 1\n"
    ++ codes "order 1\n"
    ++ codes "claimed levels: x 1\n"
    ++ codes "defined levels: x 3\n"
    ++ codes "claimed order: 1\n"
    ++ codes "defined order: 1\n"
unfolding layouts_compute columns_of rewritten implicit_of closers_of digits
neutral_printed = refl

-- a row that expects a paragraph level; the expected order is not the defined one
pub paragraph_printed : row_text 7 (record {
  expected = record {
    text = plain R ∷ [];
    directions = Auto ∷ [];
    para_level = Some 0;
    levels = Some 1 ∷ [];
    order = [];
  };
  chars = 1488 ∷ [];
})
    ≡ codes "line 7: auto\n"
    ++ codes "paragraph 0 level 1: R at 0\n" ++ columns_text
    ++ codes "0 05D0 R 1 . . . . . . . . . . . . .\n"
    ++ codes "sequence 0 level 1 sos R eos R: 0\n"
    ++ codes "order 0\n"
    ++ codes "claimed paragraph level: 0\n"
    ++ codes "defined paragraph level: 1\n"
    ++ codes "claimed levels: 1\n"
    ++ codes "defined levels: 1\n"
    ++ codes "claimed order:\n"
    ++ codes "defined order: 0\n"
unfolding layouts_compute columns_of rewritten implicit_of closers_of digits code_text
paragraph_printed = refl

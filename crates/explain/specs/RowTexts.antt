-- What is printed of a row, as bytes: for each of its directions what each rule does to its text, and then the expected
-- results beside those of the rules P1 to L2.
use Rattle.std.specs.Prelude.{Option, Some, None, ℕ, List, [], ◌∷◌, ◌++◌, codes}
use Rattle.std.specs.List.{concat, flat_map}
use Rattle.std.specs.Fmt.{decimal}
use Rattle.units.specs.Layout.{TextLayout, all_orders}
use Rattle.units.specs.Limits.{standard}
use Rattle.units.specs.declared.level.Direction.{Direction}
use Rattle.bidtests.specs.Headline.{layout_under}
use Rattle.bidtests.specs.Verdicts.{Expected, first_of}
use Rattle.bidtests.specs.VerdictText.{direction_word}
use Rattle.printing.specs.LevelsText.{level_text, line_feed}
use Rattle.explain.specs.Explained.{explained_units}
use Rattle.rows.specs.RowTexts.{after_blanks}
use Rattle.explain.specs.WantedRows.{RowView}

-- a line: a label, and its value
abbrev pub labelled_line : List ℕ → List ℕ → List ℕ
labelled_line name noted = concat (name ∷ codes ":" ∷ noted ∷ line_feed ∷ [])

-- a level of a first paragraph after a blank, if there is one
abbrev pub para_text : Option ℕ → List ℕ
para_text None = []
para_text (Some level) = codes " " ++ decimal level

-- the expected level of the first paragraph and the defined one, if one is expected
abbrev pub para_lines : Option ℕ → TextLayout → List ℕ
para_lines None layout = []
para_lines (Some level) layout =
    labelled_line (codes "claimed paragraph level") (para_text (Some level))
    ++ labelled_line (codes "defined paragraph level") (para_text (first_of layout.paras))

-- the expected levels, and the defined ones, with `x` for a removed position
abbrev pub levels_lines : List (Option ℕ) → TextLayout → List ℕ
levels_lines levels layout =
    labelled_line (codes "claimed levels") (after_blanks level_text levels)
    ++ labelled_line (codes "defined levels") (after_blanks level_text layout.levels)

-- the expected order, and the defined one
abbrev pub order_lines : List ℕ → TextLayout → List ℕ
order_lines order layout =
    labelled_line (codes "claimed order") (after_blanks decimal order)
    ++ labelled_line (codes "defined order") (after_blanks decimal (all_orders layout))

-- the expected results of a row, beside those of a layout
abbrev pub expected_text : Expected → TextLayout → List ℕ
expected_text expected layout =
    para_lines expected.para_level layout ++ levels_lines expected.levels layout ++ order_lines expected.order layout

-- the line before a case: the line number of its row, and its direction
abbrev pub case_heading : ℕ → Direction → List ℕ
case_heading number d = concat (codes "line " ∷ decimal number ∷ codes ": " ∷ direction_word d ∷ line_feed ∷ [])

-- what is printed of a row under a direction, with the row's line number
abbrev pub case_text : ℕ → RowView → Direction → List ℕ
case_text number row d =
    case_heading number d ++ explained_units row.chars row.expected.text d ++
    expected_text row.expected (layout_under standard row.expected d)

-- what is printed of a row: its cases, in the order of its directions
abbrev pub row_text : ℕ → RowView → List ℕ
row_text number row = flat_map (case_text number row) row.expected.directions

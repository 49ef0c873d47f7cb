-- What is printed of a part of a text, after the paragraphs that were passed.
use Rattle.std.specs.Prelude.{Option, ℕ, ◌+◌, List, [], ◌++◌, length, None, slice_index, slice_index_or}
use Rattle.units.specs.Layout.{TextLayout, layout_of, no_unit}
use Rattle.units.specs.Limits.{standard}
use Rattle.units.specs.declared.bracket.Unit.{Unit as BidiUnit}
use Rattle.units.specs.declared.level.Direction.{Direction}
use Rattle.lines.specs.Layouts.{no_line}
use Rattle.ucdfiles.specs.Tables.{TablesOf, mirror_by, units_by}
use Rattle.printing.specs.LevelsText.{paragraph_text, position_text, printed}
use Rattle.printing.specs.PrintedTexts.{breaks_of, lines_text, printed_levels, printed_reorder}
use Rattle.printing.specs.declared.form.Form.{Form}
use Rattle.printing.specs.declared.form.Form.TheVariants.{Levels, Reorder}
use Rattle.printing.specs.declared.passed.Passed.{Passed}

-- what is printed of a text in this form
abbrev pub printed_as : Form → TablesOf → List ℕ → Direction → List ℕ
printed_as Levels tables chars direction = printed_levels tables chars direction
printed_as (Reorder columns) tables chars direction = printed_reorder tables chars direction columns

-- the line of the position p of a part
abbrev pub position_after : Passed → List ℕ → List BidiUnit → List (Option ℕ) → ℕ → List ℕ
position_after passed chars text levels p =
    position_text (passed.characters + p) (slice_index chars p) (slice_index_or text p no_unit).class
    (slice_index_or levels p None)

-- P1: the paragraph with the number k of a part: its line, and then the lines of its positions
abbrev pub paragraph_after : Passed → List ℕ → List BidiUnit → TextLayout → ℕ → List ℕ
paragraph_after passed chars text layout k =
    let line = slice_index_or layout.lines k no_line in
    paragraph_text (passed.paragraphs + k) (slice_index_or layout.paras k 0)
    ++ printed (position_after passed chars text layout.levels) line.start line.end

-- the paragraphs of a part, one after another
abbrev pub levels_after : Passed → List ℕ → List BidiUnit → TextLayout → List ℕ
levels_after passed chars text layout = printed (paragraph_after passed chars text layout) 0 (length layout.lines)

-- a paragraph, from its level and the levels of its positions
abbrev pub one_paragraph_after : Passed → ℕ → List ℕ → List BidiUnit → List (Option ℕ) → List ℕ
one_paragraph_after passed level chars text levels =
    paragraph_text passed.paragraphs level ++ printed (position_after passed chars text levels) 0 (length chars)

-- what is printed of a part with these units in this form
abbrev pub printed_units : Form → Passed → TablesOf → List ℕ → List BidiUnit → Direction → List ℕ
printed_units Levels passed tables chars units direction =
    levels_after passed chars units (layout_of standard units direction [])
printed_units (Reorder columns) passed tables chars units direction =
    lines_text (mirror_by tables.mirrors) chars units direction (breaks_of units columns)

-- what is printed of a part of a text in this form
unfoldable pub printed_after : Form → Passed → TablesOf → List ℕ → Direction → List ℕ
printed_after form passed tables chars direction =
    printed_units form passed tables chars (units_by tables chars) direction

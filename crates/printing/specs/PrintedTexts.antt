-- The texts that `levels` and `reorder` print, from tables, text, direction and columns, and with the standard limits.
use Rattle.std.specs.Prelude.{Option, ℕ, List, [], Some, None}
use Rattle.std.specs.declared.num.NonZeroU16.{NonZeroU16}
use Rattle.units.specs.Layout.{layout_of}
use Rattle.units.specs.Limits.{standard}
use Rattle.units.specs.declared.bracket.Unit.{Unit as BidiUnit}
use Rattle.units.specs.declared.level.Direction.{Direction}
use Rattle.ucdfiles.specs.Tables.{TablesOf, mirror_by, units_by}
use Rattle.printing.specs.Columns.{column_breaks_of}
use Rattle.printing.specs.LevelsText.{levels_text}
use Rattle.printing.specs.ReorderText.{reorder_text}

-- what `levels` prints: the paragraphs of the layout without further breaks
abbrev pub printed_levels : TablesOf → List ℕ → Direction → List ℕ
printed_levels tables chars direction =
    levels_text chars (units_by tables chars) (layout_of standard (units_by tables chars) direction [])

-- the lines of the layout of these units with these breaks, each as it is shown with mirrored characters
abbrev pub lines_text : (ℕ → Option ℕ) → List ℕ → List BidiUnit → Direction → List ℕ → List ℕ
lines_text images chars text direction breaks =
    reorder_text images chars text (layout_of standard text direction breaks)

-- the breaks at columns if the number of columns is given
abbrev pub breaks_of : List BidiUnit → Option NonZeroU16 → List ℕ
breaks_of text None = []
breaks_of text (Some columns) = column_breaks_of text columns.value

-- what `reorder` prints: the lines of the layout with breaks at the columns
abbrev pub printed_reorder : TablesOf → List ℕ → Direction → Option NonZeroU16 → List ℕ
printed_reorder tables chars direction columns =
    let text = units_by tables chars in
    lines_text (mirror_by tables.mirrors) chars text direction (breaks_of text columns)

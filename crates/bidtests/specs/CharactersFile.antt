-- The grammar of BidiCharacterTest.txt, line by line, and the verdict on such a file.
use Rattle.std.specs.Prelude.{Option, ℕ, nat_lt, if◌then◌else◌, List, [], ◌∷◌, length, map, Some, None, codes}
use Rattle.std.specs.Option.{option_map}
use Rattle.std.specs.Str.{bytes_eq}
use Rattle.units.specs.Text.{lines_of, longest_line, content_of, fields_of, items_of, each_read}
use Rattle.units.specs.Isolates.{level_of_para}
use Rattle.units.specs.Limits.{LimitsOf}
use Rattle.units.specs.declared.bracket.Unit.{Unit as BidiUnit}
use Rattle.units.specs.declared.level.Direction.{Direction}
use Rattle.units.specs.declared.level.Direction.TheVariants.{Auto, Ltr, Rtl, AutoRtl}
use Rattle.units.specs.declared.level.ParaLevel.{ParaLevel}
use Rattle.units.specs.declared.level.ParaLevel.TheVariants.{Zero, One}
use Rattle.ucdfiles.specs.PairFiles.{char_of}
use Rattle.bidtests.specs.declared.verdict.Cause.TheVariants.{LineTooLong, LevelItem, OrderItem, FieldCount, CodePoint, DirectionField, ParaField, EmptyRow}
use Rattle.bidtests.specs.declared.verdict.Verdict.{Verdict}
use Rattle.bidtests.specs.Verdicts.{Finding, Silent, Row, Faulty, verdict_on}
use Rattle.bidtests.specs.ClassesFile.{level_item, order_item}

-- an item of the first field: a code point that is not a surrogate, as the unit that the tables give it
abbrev pub character_item : (ℕ → BidiUnit) → List ℕ → Option BidiUnit
character_item unit_of item = option_map unit_of (char_of item)

-- the second field: the direction
abbrev pub direction_field : List ℕ → Option Direction
direction_field field =
    if bytes_eq field (codes "0") then Some Ltr else if bytes_eq field (codes "1") then Some Rtl else if bytes_eq field
    (codes "2") then Some Auto
    else if bytes_eq field (codes "3") then Some AutoRtl else None

-- the third field: the paragraph's level
abbrev pub para_field : List ℕ → Option ParaLevel
para_field field = if bytes_eq field (codes "0") then Some Zero else if bytes_eq field
    (codes "1") then Some One else None

-- the finding of a row with these fields as they were read; the first field that can't be read gives the cause
abbrev pub characters_row_as_read : Option (List BidiUnit) → Option Direction → Option ParaLevel →
    Option (List (Option ℕ)) → Option (List ℕ) → Finding
characters_row_as_read None direction para_level levels order = Faulty CodePoint
characters_row_as_read (Some text) None para_level levels order = Faulty DirectionField
characters_row_as_read (Some text) (Some direction) None levels order = Faulty ParaField
characters_row_as_read (Some text) (Some direction) (Some para_level) None order = Faulty LevelItem
characters_row_as_read (Some text) (Some direction) (Some para_level) (Some levels) None = Faulty OrderItem
characters_row_as_read (Some text) (Some direction) (Some para_level) (Some levels) (Some order) =
    Row (record {
      text = text;
      directions = direction ∷ [];
      para_level = Some (level_of_para para_level);
      levels =
          levels;
      order = order;
    })

-- the finding of a row of these items, with this reading of direction fields: it has at least one item
abbrev pub characters_row_of_items : (List ℕ → Option Direction) → (ℕ → BidiUnit) → List (List ℕ) → List ℕ → List ℕ →
    List ℕ → List ℕ → Finding
characters_row_of_items reads unit_of [] direction para_level levels order = Faulty EmptyRow
characters_row_of_items reads unit_of (item ∷ items) direction para_level levels order =
    characters_row_as_read (each_read (character_item unit_of) (item ∷ items)) (reads direction) (para_field para_level)
    (each_read level_item (items_of levels)) (each_read order_item (items_of order))

-- the finding of a row of these fields, with this reading of direction fields: it has exactly five
abbrev pub characters_row_by : (List ℕ → Option Direction) → (ℕ → BidiUnit) → List (List ℕ) → Finding
characters_row_by reads unit_of (characters ∷ direction ∷ para_level ∷ levels ∷ order ∷ []) =
    characters_row_of_items reads unit_of (items_of characters) direction para_level levels order
characters_row_by reads unit_of _ = Faulty FieldCount

abbrev pub characters_row : (ℕ → BidiUnit) → List (List ℕ) → Finding
characters_row unit_of fields = characters_row_by direction_field unit_of fields

-- the finding of a content: it is silent if it is empty, and else a row, even if it begins with `@`
abbrev pub characters_content : (List ℕ → Option Direction) → (ℕ → BidiUnit) → List ℕ → Finding
characters_content reads unit_of [] = Silent
characters_content reads unit_of (b ∷ bs) = characters_row_by reads unit_of (fields_of (b ∷ bs))

-- the finding of a line, with the unit of each code point
abbrev pub characters_line_by : (List ℕ → Option Direction) → (ℕ → BidiUnit) → List ℕ → Finding
characters_line_by reads unit_of line =
    if nat_lt longest_line (length line) then Faulty LineTooLong else characters_content reads unit_of (content_of line)

unfoldable pub characters_line : (ℕ → BidiUnit) → List ℕ → Finding
characters_line unit_of line = characters_line_by direction_field unit_of line

-- the findings of a file's lines
abbrev pub characters_findings : (ℕ → BidiUnit) → List (List ℕ) → List Finding
characters_findings unit_of lines = map (characters_line unit_of) lines

-- the verdict on the bytes of a BidiCharacterTest.txt, with the unit of each code point
unfoldable pub characters_verdict : LimitsOf → (ℕ → BidiUnit) → List ℕ → Verdict
characters_verdict limits unit_of bytes = verdict_on limits (characters_findings unit_of (lines_of bytes))

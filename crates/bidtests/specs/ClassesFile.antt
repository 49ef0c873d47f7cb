-- The grammar of BidiTest.txt, line by line, and the verdict on such a file.
use Rattle.std.specs.Prelude.{Option, ℕ, ◌/◌, ◌%◌, Bool, ◌==◌, nat_lt, nat_eq, if◌then◌else◌, List, [], ◌∷◌, length, filter, map, Some, None, drop, codes}
use Rattle.std.specs.List.{starts_with}
use Rattle.std.specs.Option.{option_map}
use Rattle.std.specs.Str.{bytes_eq}
use Rattle.units.specs.ClassNames.{class_of_short}
use Rattle.units.specs.Limits.{LimitsOf}
use Rattle.units.specs.Text.{lines_of, longest_line, content_of, fields_of, items_of, number_up_to, each_read}
use Rattle.units.specs.declared.class.Class.{Class}
use Rattle.units.specs.declared.bracket.Bracket.TheVariants.{No}
use Rattle.units.specs.declared.bracket.Unit.{Unit as BidiUnit}
use Rattle.units.specs.declared.level.Direction.{Direction}
use Rattle.units.specs.declared.level.Direction.TheVariants.{Auto, Ltr, Rtl, AutoRtl}
use Rattle.bidtests.specs.declared.verdict.Cause.{Cause}
use Rattle.bidtests.specs.declared.verdict.Cause.TheVariants.{LineTooLong, Directive, LevelItem, OrderItem, ClassItem, BitSet, NoExpectation, FieldCount, EmptyRow}
use Rattle.bidtests.specs.declared.verdict.Verdict.{Verdict}
use Rattle.bidtests.specs.Verdicts.{Expected, Finding, Silent, Row, Faulty, verdict_on}

-- `x`: the position is removed (X9)
abbrev pub removed_item : List ℕ
removed_item = codes "x"

-- an item of `@Levels:`: `x`, or a level
abbrev pub level_item : List ℕ → Option (Option ℕ)
level_item item = if bytes_eq item removed_item then Some None else option_map Some (number_up_to 126 item)

-- an item of `@Reorder:`: a position
abbrev pub order_item : List ℕ → Option ℕ
order_item item = number_up_to 65535 item

-- bit 1 names auto, bit 2 LTR, bit 4 RTL, bit 8 AutoRtl
abbrev pub names_direction : ℕ → Direction → Bool
names_direction bits Auto = bits % 2 == 1
names_direction bits Ltr = bits / 2 % 2 == 1
names_direction bits Rtl = bits / 4 % 2 == 1
names_direction bits AutoRtl = bits / 8 == 1

-- the directions in the order in which a row is judged under them
abbrev pub directions_in_order : List Direction
directions_in_order = Auto ∷ Ltr ∷ Rtl ∷ AutoRtl ∷ []

-- the directions that a number of 1 to 15 names, in the same order
abbrev pub directions_of : ℕ → List Direction
directions_of bits = filter (names_direction bits) directions_in_order

-- the directions that this number names: 0 names none
abbrev pub directions_by : Option ℕ → Option (List Direction)
directions_by None = None
directions_by (Some bits) = if bits == 0 then None else Some (directions_of bits)

-- the directions that a bit set names: a number of 1 to 15
abbrev pub bit_set : List ℕ → Option (List Direction)
bit_set field = directions_by (number_up_to 15 field)

-- the unit of a class, without a bracket
abbrev pub unit_of_class : Class → BidiUnit
unit_of_class class = record { class = class; bracket = No }

-- an item of a row: the short name of a class
abbrev pub unit_item : List ℕ → Option BidiUnit
unit_item name = option_map unit_of_class (class_of_short name)

-- what a line means without the others: nothing, a list of levels, an order, a row, or that it is malformed
pub data ClassesLine : Type 0 where
  Nothing : ClassesLine
  LevelsAre : (levels : List (Option ℕ)) → ClassesLine
  OrderIs : (order : List ℕ) → ClassesLine
  RowOf : (text : List BidiUnit) → (directions : List Direction) → ClassesLine
  Broken : (cause : Cause) → ClassesLine

-- the meaning of `@Levels:` with these items as they were read
abbrev pub levels_directive : Option (List (Option ℕ)) → ClassesLine
levels_directive None = Broken LevelItem
levels_directive (Some levels) = LevelsAre levels

-- the meaning of `@Reorder:` with these items as they were read
abbrev pub order_directive : Option (List ℕ) → ClassesLine
order_directive None = Broken OrderItem
order_directive (Some order) = OrderIs order

-- the meaning of `@Levels:` with this list
abbrev pub levels_by_directive : List ℕ → ClassesLine
levels_by_directive list = levels_directive (each_read level_item (items_of list))

-- the meaning of `@Reorder:` with this list
abbrev pub order_by_directive : List ℕ → ClassesLine
order_by_directive list = order_directive (each_read order_item (items_of list))

-- the meaning of a content that begins with `@`
abbrev pub directive : List ℕ → ClassesLine
directive content =
    if starts_with nat_eq content (codes "@Type:") then Nothing
    else if starts_with nat_eq content (codes "@Levels:") then levels_by_directive (drop 8 content)
    else if starts_with nat_eq content (codes "@Reorder:") then order_by_directive (drop 9 content)
    else Broken Directive

-- the meaning of a row with these items and this bit set as they were read: a wrong item comes before a wrong bit set
abbrev pub classes_row_as_read : Option (List BidiUnit) → Option (List Direction) → ClassesLine
classes_row_as_read None directions = Broken ClassItem
classes_row_as_read (Some text) None = Broken BitSet
classes_row_as_read (Some text) (Some directions) = RowOf text directions

-- the meaning of a row of these items, with this reading of bit sets: it has at least one item
abbrev pub classes_row_of_items : (List ℕ → Option (List Direction)) → List (List ℕ) → List ℕ → ClassesLine
classes_row_of_items reads [] bits = Broken EmptyRow
classes_row_of_items reads (name ∷ names) bits = classes_row_as_read (each_read unit_item (name ∷ names)) (reads bits)

-- the meaning of a row of these fields, with this reading of bit sets: it has exactly two
abbrev pub classes_row_by : (List ℕ → Option (List Direction)) → List (List ℕ) → ClassesLine
classes_row_by reads (names ∷ bits ∷ []) = classes_row_of_items reads (items_of names) bits
classes_row_by reads _ = Broken FieldCount

abbrev pub classes_row : List (List ℕ) → ClassesLine
classes_row fields = classes_row_by bit_set fields

-- the meaning of a content: nothing if it is empty, a directive if it begins with `@`, else a row
abbrev pub classes_content : (List ℕ → Option (List Direction)) → List ℕ → ClassesLine
classes_content reads [] = Nothing
classes_content reads (b ∷ bs) = if b == 64 then directive (b ∷ bs) else classes_row_by reads (fields_of (b ∷ bs))

-- the meaning of a line without the others, with this reading of bit sets
abbrev pub classes_line_by : (List ℕ → Option (List Direction)) → List ℕ → ClassesLine
classes_line_by reads line =
    if nat_lt longest_line (length line) then Broken LineTooLong else classes_content reads (content_of line)

unfoldable pub classes_line : List ℕ → ClassesLine
classes_line line = classes_line_by bit_set line

-- the levels in force after these lines, the nearest first: those of the nearest line that lists levels
abbrev pub levels_in_force : List ClassesLine → Option (List (Option ℕ))
levels_in_force [] = None
levels_in_force (LevelsAre levels ∷ earlier) = Some levels
levels_in_force (_ ∷ earlier) = levels_in_force earlier

-- the order in force after these lines, the nearest first: that of the nearest line that lists an order
abbrev pub order_in_force : List ClassesLine → Option (List ℕ)
order_in_force [] = None
order_in_force (OrderIs order ∷ earlier) = Some order
order_in_force (_ ∷ earlier) = order_in_force earlier

-- what a row expects: the lists in force, and no paragraph level
abbrev pub expected_under : List BidiUnit → List Direction → List (Option ℕ) → List ℕ → Expected
expected_under text directions levels order = record {
  text = text;
  directions = directions;
  para_level = None;
  levels =
      levels;
  order = order;
}

-- the finding of a row if these lists are in force: it needs both
abbrev pub row_under : List BidiUnit → List Direction → Option (List (Option ℕ)) → Option (List ℕ) → Finding
row_under text directions (Some levels) (Some order) = Row (expected_under text directions levels order)
row_under text directions _ _ = Faulty NoExpectation

-- the finding of a line if these lists are in force
abbrev pub comes_to : Option (List (Option ℕ)) → Option (List ℕ) → ClassesLine → Finding
comes_to levels order Nothing = Silent
comes_to levels order (LevelsAre _) = Silent
comes_to levels order (OrderIs _) = Silent
comes_to levels order (Broken cause) = Faulty cause
comes_to levels order (RowOf text directions) = row_under text directions levels order

-- the findings of these lines after the earlier ones, of which the nearest is first
abbrev pub findings_after : List ClassesLine → List ClassesLine → List Finding
findings_after earlier [] = []
findings_after earlier (line ∷ lines) =
    comes_to (levels_in_force earlier) (order_in_force earlier) line ∷ findings_after (line ∷ earlier) lines

-- the findings of a file's lines
abbrev pub classes_findings : List (List ℕ) → List Finding
classes_findings lines = findings_after [] (map classes_line lines)

-- the verdict on the bytes of a BidiTest.txt
unfoldable pub classes_verdict : LimitsOf → List ℕ → Verdict
classes_verdict limits bytes = verdict_on limits (classes_findings (lines_of bytes))

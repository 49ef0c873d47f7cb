-- Rows in the forms of BidiTest.txt and BidiCharacterTest.txt, as bytes: a text of letters with the levels and the
-- order of its layout.
use Rattle.std.specs.Prelude.{Option, ℕ, ◌<◌, ◌≤◌, List, [], ◌∷◌, ◌++◌, codes, length}
use Rattle.std.specs.List.{All, flat_map}
use Rattle.std.specs.Fmt.{decimal}
use Rattle.units.specs.Layout.{TextLayout, layout_of, all_orders}
use Rattle.units.specs.Limits.{LimitsOf}
use Rattle.units.specs.Lines.{ended}
use Rattle.units.specs.declared.level.Direction.{Direction}
use Rattle.units.specs.declared.level.Direction.TheVariants.{Auto, Ltr, Rtl, AutoRtl}
use Rattle.printing.specs.LevelsText.{level_text}
use Rattle.bidtests.specs.declared.kind.Kind.{Kind}
use Rattle.bidtests.specs.declared.kind.Kind.TheVariants.{Classes, Characters}
use Rattle.rows.specs.declared.letter.Letter.{Letter}
use Rattle.rows.specs.Letters.{IsLetterOf, letter_name, units_of}

-- a text, and the direction under which it is laid out
pub record Case : Type 0 where
  pub text : List Letter
  pub direction : Direction

-- each item after a blank
abbrev pub after_blanks : {A : Type 0} → (A → List ℕ) → List A → List ℕ
after_blanks text items = flat_map (λ item. codes " " ++ text item) items

-- the items, with a blank between each two
abbrev pub between_blanks : {A : Type 0} → (A → List ℕ) → List A → List ℕ
between_blanks text [] = []
between_blanks text (item ∷ items) = text item ++ after_blanks text items

-- the line of the levels, with `x` for each removed position
abbrev pub levels_line : List (Option ℕ) → List ℕ
levels_line levels = codes "@Levels:" ++ after_blanks level_text levels

-- the line of the order, positions from left to right
abbrev pub order_line : List ℕ → List ℕ
order_line order = codes "@Reorder:" ++ after_blanks decimal order

-- the bit that names a direction
abbrev pub bit_text : Direction → List ℕ
bit_text Auto = codes "1"
bit_text Ltr = codes "2"
bit_text Rtl = codes "4"
bit_text AutoRtl = codes "8"

-- the line of a row
abbrev pub row_line : List Letter → Direction → List ℕ
row_line text direction = between_blanks letter_name text ++ (codes "; " ++ bit_text direction)

-- the number that names a direction in a row of characters
abbrev pub direction_text : Direction → List ℕ
direction_text Ltr = codes "0"
direction_text Rtl = codes "1"
direction_text Auto = codes "2"
direction_text AutoRtl = codes "3"

-- the level of the first paragraph if there is one
abbrev pub para_text : List ℕ → List ℕ
para_text [] = []
para_text (para ∷ paras) = decimal para

-- the fields, with a semicolon between each two
abbrev pub in_fields : List (List ℕ) → List ℕ
in_fields [] = []
in_fields (field ∷ []) = field
in_fields (field ∷ next ∷ fields) = field ++ (codes ";" ++ in_fields (next ∷ fields))

-- the fields of a row of characters with this layout: the text, the direction, the first paragraph's level, the levels
-- of all positions, and the order
abbrev pub fields_with_layout : TextLayout → Case → List (List ℕ)
fields_with_layout layout c =
    between_blanks letter_name c.text ∷ direction_text c.direction ∷ para_text layout.paras ∷
    between_blanks level_text layout.levels
    ∷ between_blanks decimal (all_orders layout) ∷ []

-- the lines of a case with this layout: in a file of classes its levels, its order and its row; in a file of characters
-- its row, which contains all of them
abbrev pub lines_with_layout : Kind → TextLayout → Case → List (List ℕ)
lines_with_layout Classes layout c =
    levels_line layout.levels ∷ order_line (all_orders layout) ∷ row_line c.text c.direction ∷ []
lines_with_layout (Characters tables) layout c = in_fields (fields_with_layout layout c) ∷ []

-- P1 to L2: the layout of a case without breaks
abbrev pub layout_of_case : LimitsOf → Case → TextLayout
layout_of_case limits c = layout_of limits (units_of c.text) c.direction []

-- the lines of a case, with what the rules give
abbrev pub case_lines : LimitsOf → Kind → Case → List (List ℕ)
case_lines limits kind c = lines_with_layout kind (layout_of_case limits c) c

-- the lines of all these cases
abbrev pub lines_of_cases : LimitsOf → Kind → List Case → List (List ℕ)
lines_of_cases limits kind cases = flat_map (case_lines limits kind) cases

-- a file of these cases
abbrev pub cases_text : LimitsOf → Kind → List Case → List ℕ
cases_text limits kind cases = flat_map ended (lines_of_cases limits kind cases)

-- the longest text of a row; no line of such a text is longer than the judge reads
abbrev pub longest_row : ℕ
longest_row = 4095

-- a text that a row of this kind can have: it has letters of this kind, and is neither empty nor too long
pub record IsRowText (kind : Kind) (text : List Letter) : Type 0 where
  pub some : 0 < length text
  pub fits : length text ≤ longest_row
  pub letters : All (IsLetterOf kind) text
